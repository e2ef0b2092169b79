use Rattle.shard_machine.proofs.laws.stops_are_share_stops.Goals as goal
use Rattle.shard_machine.proofs.Ran.{stops_are, nothing_behind}

pub returns-clause-stops : goal.returns-clause-stops
returns-clause-stops c = stops_are

pub returns-clause-nothing_behind : goal.returns-clause-nothing_behind
returns-clause-nothing_behind c = nothing_behind
