use Rattle.nf_laws.proofs.runs.packets_meet_where_they_share.Goals as goal
use Rattle.nf_laws.proofs.Reported.{packets_meet}

pub returns : goal.returns
returns c = packets_meet
