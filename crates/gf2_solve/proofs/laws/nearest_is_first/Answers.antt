use Rattle.gf2_solve.proofs.Nearness.{first_nearest}
use Rattle.gf2_solve.proofs.laws.nearest_is_first.Goals as goal

pub returns : goal.returns
returns c = first_nearest
