use Rattle.shard_laws.proofs.shares.share_stops_alike.Goals as goal
use Rattle.shard_laws.proofs.Stopped.{stops_are_undivided}

pub returns : goal.returns
returns c = stops_are_undivided
