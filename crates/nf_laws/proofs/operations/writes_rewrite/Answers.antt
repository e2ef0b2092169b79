use Rattle.nf_laws.proofs.operations.writes_rewrite.Goals as goal
use Rattle.nf_laws.proofs.Effected.{writes_rewrite}

pub returns : goal.returns
returns c = writes_rewrite
