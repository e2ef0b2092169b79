use Rattle.nf_laws.proofs.states.openings_are_empty.Goals as goal
use Rattle.nf_laws.proofs.Sound.{opening_empty}

pub returns : goal.returns
returns c = opening_empty
