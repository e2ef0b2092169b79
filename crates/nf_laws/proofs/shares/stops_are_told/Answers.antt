use Rattle.nf_laws.proofs.shares.stops_are_told.Goals as goal
use Rattle.nf_laws.proofs.StoppedTold.{stops_are_told, share_stops_told}

pub returns-clause-courses : goal.returns-clause-courses
returns-clause-courses c = stops_are_told

pub returns-clause-packets : goal.returns-clause-packets
returns-clause-packets c = share_stops_told
