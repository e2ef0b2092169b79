-- Texts that are put into some room, one behind another.
use Rattle.std.specs.Prelude.{◌≡◌, ◌+◌, ◌/◌, ◌%◌, ℕ, List, [], ◌∷◌, ◌++◌, length, take}

-- A text was put at a place: it ends at the place that is told, and what stands before it stays.
pub record Puts (text old : List ℕ) (at : ℕ) (new : List ℕ) (end : ℕ) : Type 0 where
  pub ends : end ≡ at + length text
  pub front : take end new ≡ take at old ++ text

-- a number below 100 in two digits
abbrev pub pair : ℕ → List ℕ
pair p = (48 + p / 10) ∷ (48 + p % 10) ∷ []

-- a number below 10,000 in four digits
abbrev pub four : ℕ → List ℕ
four p = pair (p / 100) ++ pair (p % 100)
