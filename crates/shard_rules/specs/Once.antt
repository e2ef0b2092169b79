-- What stands in a list, each once.
use Rattle.std.specs.Prelude.{Bool, not, List, [], ◌∷◌, ◌++◌, filter, if◌then◌else◌}
use Rattle.std.specs.List.{list_any}

-- whether something is among others, by a test of sameness
abbrev pub is_among : {A : Type 0} → (A → A → Bool) → A → List A → Bool
is_among same x xs = list_any (λ y. same y x) xs

-- something put last, where it isn't among them
abbrev pub with_one : {A : Type 0} → (A → A → Bool) → A → List A → List A
with_one same x xs = if is_among same x xs then xs else xs ++ x ∷ []

-- each thing once, in the order in which they first appear
abbrev pub each_once : {A : Type 0} → (A → A → Bool) → List A → List A
each_once same [] = []
each_once same (x ∷ xs) = x ∷ filter (λ y. not (same x y)) (each_once same xs)
