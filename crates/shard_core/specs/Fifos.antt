-- A queue and its room.
use Rattle.std.specs.Prelude.{◌≡◌, ℕ, List, [], ◌∷◌, Option, Some, None}
use Rattle.std.specs.Borrow.{Bor}

-- values in the order in which they came, and for how many more there is room
pub record Pending (T : Type 0) : Type 0 where
  pub items : List T
  pub room : ℕ

-- the first of some values, if there is one
abbrev pub IsFirst : {T : Type 0} → List T → Option (Bor T) → Type 0
IsFirst [] None = Unit {0}
IsFirst [] (Some y) = ⊥
IsFirst (x ∷ xs) None = ⊥
IsFirst (x ∷ xs) (Some y) = y.now ≡ x
