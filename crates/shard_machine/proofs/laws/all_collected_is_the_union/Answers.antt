use Rattle.shard_machine.proofs.laws.all_collected_is_the_union.Goals as goal
use Rattle.shard_machine.proofs.Ran.{all_collected}

pub returns : goal.returns
returns c = all_collected
