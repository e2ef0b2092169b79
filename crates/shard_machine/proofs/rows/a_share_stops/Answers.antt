use Rattle.shard_machine.proofs.rows.a_share_stops.Goals as goal
use Rattle.shard_machine.proofs.Rowed.{share_stops_it}

pub returns : goal.returns
returns c = share_stops_it
