-- What is true of a map's fields.
use Rattle.std.specs.Prelude.{◌≡◌, ℕ, ◌*◌, ◌≤◌, List, length, Option}
use Rattle.vig_map.specs.declared.slots.Pair.{Pair}
use Rattle.vig_map.specs.Slots.{AreMet, pairs_of}

-- The slots of a map: three for each pair that may stand, and each pair where its search comes to
-- it.
pub record IsSoundMap (slots : List (Option Pair)) (held most : ℕ) : Type 0 where
  pub some : 1 ≤ most
  pub limit : most ≤ 65536
  pub room : length slots ≡ 3 * most
  pub met : AreMet (2 * most) slots
  pub count : length (pairs_of slots) ≡ held
  pub within : held ≤ most
