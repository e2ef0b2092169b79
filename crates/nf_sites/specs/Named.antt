-- Labels with what each is given, and which of them speaks for a label.
use Rattle.std.specs.Prelude.{ℕ, suc, ◌==◌, nat_lt, Bool, List, [], ◌∷◌, Option, Some, None, if◌then◌else◌}

-- a label with what it is given
pub record Named (A : Type 0) : Type 0 where
  pub label : ℕ
  pub given : A

-- the same label with what a function makes of that
abbrev pub named_as : {A B : Type 0} → (A → B) → Named A → Named B
named_as f n = record { label = n.label; given = f n.given }

-- labels from a number on
abbrev pub numbered : {A : Type 0} → ℕ → List A → List (Named A)
numbered n [] = []
numbered n (x ∷ xs) = record { label = n; given = x } ∷ numbered (suc n) xs

-- the one with the lesser label, the first of two with one label
abbrev pub lesser : {A : Type 0} → Named A → Option (Named A) → Option (Named A)
lesser x None = Some x
lesser x (Some y) = if nat_lt y.label x.label then Some y else Some x

-- of those whose label passes a test, the one with the least label
abbrev pub least : {A : Type 0} → (ℕ → Bool) → List (Named A) → Option (Named A)
least test [] = None
least test (x ∷ xs) = if test x.label then lesser x (least test xs) else least test xs

-- the first of two, or else the second
abbrev pub or_else : {A : Type 0} → Option A → Option A → Option A
or_else None y = y
or_else (Some x) y = Some x

-- What speaks for a label among those that are named: itself, or else the first label in text order
-- that is together with it.
abbrev pub speaker : {A : Type 0} → (ℕ → Bool) → ℕ → List (Named A) → Option (Named A)
speaker is_together l xs = or_else (least (λ r. r == l) xs) (least is_together xs)
