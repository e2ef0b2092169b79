use Rattle.shard_core.proofs.Setups.{setups_exist}
use Rattle.shard_core.proofs.laws.setups_exist.Goals as goal

pub returns : goal.returns
returns c = setups_exist
