use Rattle.declared_laws.proofs.functions_declare_their_objects.Goals as goal
use Rattle.declared_laws.proofs.Declared.{functions_declare}

pub returns : goal.returns
returns c = functions_declare
