use Rattle.gf2_solve.proofs.Nearness.{nearest_first}
use Rattle.gf2_solve.proofs.laws.first_is_nearest.Goals as goal

pub returns : goal.returns
returns c = nearest_first
