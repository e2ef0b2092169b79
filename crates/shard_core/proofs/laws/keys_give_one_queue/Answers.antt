use Rattle.shard_core.proofs.Keyed.{keys_give}
use Rattle.shard_core.proofs.laws.keys_give_one_queue.Goals as goal

pub returns : goal.returns
returns c = keys_give
