use Rattle.nf_laws.proofs.operations.touches_restamp.Goals as goal
use Rattle.nf_laws.proofs.Effected.{touches_restamp}

pub returns : goal.returns
returns c = touches_restamp
