use Rattle.shard_laws.proofs.queues_give_a_meaning.Goals as goal
use Rattle.shard_laws.proofs.Recomposed.{undivided_runs}

pub returns : goal.returns
returns c = undivided_runs
