use Rattle.shard_machine.proofs.laws.collected_is_a_run.Goals as goal
use Rattle.shard_machine.proofs.Ran.{collected_is_a_run}

pub returns : goal.returns
returns c = collected_is_a_run
