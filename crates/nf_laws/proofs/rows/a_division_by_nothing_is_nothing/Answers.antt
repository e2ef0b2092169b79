use Rattle.std.proofs.Common.{refl}
use Rattle.nf_laws.proofs.rows.a_division_by_nothing_is_nothing.Goals as goal

pub returns : goal.returns
returns c = record { quotient = refl; by_nothing = refl; remainder = refl; of_nothing = refl; difference = refl; below = refl }
