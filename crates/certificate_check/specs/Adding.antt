-- Rows of bits that are added up in place.
use Rattle.std.specs.Prelude.{◌≡◌, ℕ, ◌<◌, Bool, List, [], All, Option, Some, None}
use Rattle.gf2_solve.specs.Sums.{plus, bit}
use Rattle.certificate_laws.specs.Terms.{alone}

-- each bit is the sum of two rows' bits
pub record IsAdded (old row new : List Bool) : Type 0 where
  pub bits : (i : ℕ) → bit new i ≡ plus (bit old i) (bit row i)

-- what a sum is to be: nothing, or one bit alone
abbrev pub wanted_row : Option ℕ → List Bool
wanted_row None = []
wanted_row (Some place) = alone place

-- the bits of each row are among the first n
abbrev pub IsWithin : ℕ → List (List ℕ) → Type 0
IsWithin n rows = All (λ row. All (λ place. place < n) row) rows

-- the same bits, and zeros past the end of either
pub record IsSame (row other : List Bool) : Type 0 where
  pub bits : (i : ℕ) → bit other i ≡ bit row i
