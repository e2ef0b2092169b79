use Rattle.shard_rules.proofs.Table.{one_rule}
use Rattle.shard_rules.proofs.laws.one_rule_fits.Goals as goal

pub returns : goal.returns
returns c = one_rule
