use Rattle.shard_machine.proofs.rows.other_things_are_refused.Goals as goal
use Rattle.shard_machine.proofs.Rowed.{others_refused}

pub returns : goal.returns
returns c = others_refused
