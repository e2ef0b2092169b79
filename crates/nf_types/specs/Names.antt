-- Lists of what has a name. A name is a list of bytes.
use Rattle.std.specs.Prelude.{ℕ, ◌+◌, Bool, List, [], ◌∷◌, Option, Some, None, if◌then◌else◌}
use Rattle.std.specs.List.{list_any}
use Rattle.std.specs.Str.{bytes_eq}

-- whether a name is one of these
abbrev pub is_among : List ℕ → List (List ℕ) → Bool
is_among x xs = list_any (bytes_eq x) xs

-- the first item with a name, and its number; the items are numbered from i
abbrev pub named_from : {A : Type 0} → ℕ → (A → List ℕ) → List ℕ → List A → Option (ℕ × A)
named_from i name x [] = None
named_from i name x (item ∷ items) =
    if bytes_eq x (name item) then Some (i, item) else named_from (i + 1) name x items

-- the first item with a name, and its number
abbrev pub named : {A : Type 0} → (A → List ℕ) → List ℕ → List A → Option (ℕ × A)
named name x items = named_from 0 name x items
