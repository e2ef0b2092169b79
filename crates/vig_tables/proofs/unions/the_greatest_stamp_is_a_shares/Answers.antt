use Rattle.vig_tables.proofs.OneUnion.{one_of_theirs}
use Rattle.vig_tables.proofs.unions.the_greatest_stamp_is_a_shares.Goals as goal

pub returns : goal.returns
returns c = one_of_theirs
