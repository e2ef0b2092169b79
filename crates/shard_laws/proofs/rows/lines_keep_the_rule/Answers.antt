use Rattle.shard_laws.proofs.rows.lines_keep_the_rule.Goals as goal
use Rattle.shard_laws.proofs.Ruled.{lines_keep}

pub returns : goal.returns
returns c = lines_keep
