use Rattle.gf2_solve.proofs.WordLemmas.{bits_in-none}
use Rattle.gf2_solve.proofs.row.Row.with_capacity.Goals as goal

pub returns : goal.returns
returns c = bits_in-none _
