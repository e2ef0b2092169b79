use Rattle.shard_core.proofs.Counting.{works_are_counted}
use Rattle.shard_core.proofs.laws.works_are_counted.Goals as goal

pub returns : goal.returns
returns c = works_are_counted
