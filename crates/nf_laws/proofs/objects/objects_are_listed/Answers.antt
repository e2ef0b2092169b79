use Rattle.nf_laws.proofs.objects.objects_are_listed.Goals as goal
use Rattle.nf_laws.proofs.Counted.{objects_listed}

pub returns : goal.returns
returns c = objects_listed
