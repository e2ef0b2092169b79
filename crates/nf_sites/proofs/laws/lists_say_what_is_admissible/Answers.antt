use Rattle.nf_sites.proofs.laws.lists_say_what_is_admissible.Goals as goal
use Rattle.nf_sites.proofs.KeptLabels.{lists_say}

pub returns : goal.returns
returns c = lists_say
