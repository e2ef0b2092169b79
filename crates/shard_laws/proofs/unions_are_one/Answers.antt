use Rattle.shard_laws.proofs.unions_are_one.Goals as goal
use Rattle.shard_laws.proofs.Alone.{unions_are_one}

pub returns : goal.returns
returns c = unions_are_one
