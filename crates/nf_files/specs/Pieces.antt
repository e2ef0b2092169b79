-- Bytes that are taken from a file, or given to one.
use Rattle.std.specs.Prelude.{◌≡◌, ℕ, List, ◌++◌, Option, Some, None}

-- this front was taken away from what was left, where that is told
abbrev pub Takes : List ℕ → Option (List ℕ) → Option (List ℕ) → Type 0
Takes front (Some old) (Some new) = old ≡ front ++ new
Takes front None None = Unit {0}
Takes front (Some old) None = ⊥
Takes front None (Some new) = ⊥

-- this piece was put behind what was there, where that is told
abbrev pub Gains : List ℕ → Option (List ℕ) → Option (List ℕ) → Type 0
Gains piece (Some old) (Some new) = new ≡ old ++ piece
Gains piece None None = Unit {0}
Gains piece (Some old) None = ⊥
Gains piece None (Some new) = ⊥
