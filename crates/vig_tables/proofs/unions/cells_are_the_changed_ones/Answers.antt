use Rattle.vig_tables.proofs.OneUnion.{the_changed_ones}
use Rattle.vig_tables.proofs.unions.cells_are_the_changed_ones.Goals as goal

pub returns : goal.returns
returns c = the_changed_ones
