use Rattle.shard_laws.proofs.shards_compose.Goals as goal
use Rattle.shard_laws.proofs.Merged.{queues_compose}

pub returns : goal.returns
returns c = queues_compose
