use Rattle.nf_sites.proofs.laws.named_labels_speak.Goals as goal
use Rattle.nf_sites.proofs.Speaking.{speakers_speak, none_speaks}

pub returns-clause-some : goal.returns-clause-some
returns-clause-some c = speakers_speak

pub returns-clause-none : goal.returns-clause-none
returns-clause-none c = none_speaks
