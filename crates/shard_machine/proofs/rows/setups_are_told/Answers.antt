use Rattle.shard_machine.proofs.rows.setups_are_told.Goals as goal
use Rattle.shard_machine.proofs.Rowed.{setups_told}

pub returns : goal.returns
returns c = setups_told
