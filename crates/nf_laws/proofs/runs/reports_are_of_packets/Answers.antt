use Rattle.nf_laws.proofs.runs.reports_are_of_packets.Goals as goal
use Rattle.nf_laws.proofs.Reported.{reports_are}

pub returns : goal.returns
returns c = reports_are
