use Rattle.shard_laws.proofs.shares.meeting_stops_are_undivided.Goals as goal
use Rattle.shard_laws.proofs.Sharing.{meeting_stops}

pub returns : goal.returns
returns c = meeting_stops
