use Rattle.vig_tables.proofs.OneUnion.{one_union}
use Rattle.vig_tables.proofs.unions.unions_are_one.Goals as goal

pub returns : goal.returns
returns c = one_union
