-- The entries of a chain, by their parts.
use Rattle.std.specs.Prelude.{ℕ, ◌+◌, List, [], ◌∷◌, Option, Some, None}
use Rattle.nf_base.specs.declared.state.Entry.{Entry}

-- what stands at an index, by its stamp, its labels and its free columns
abbrev pub slot_of : Option ℕ → List ℕ → List ℕ → Option Entry
slot_of None labels columns = None
slot_of (Some stamp) labels columns =
    Some (record { stamp = stamp; labels = labels; columns = columns })

-- the same of each index
abbrev pub slots_of : List (Option ℕ) → List (List ℕ) → List (List ℕ) → List (Option Entry)
slots_of [] labels columns = []
slots_of (stamp ∷ stamps) [] columns = []
slots_of (stamp ∷ stamps) (l ∷ labels) [] = []
slots_of (stamp ∷ stamps) (l ∷ labels) (f ∷ columns) =
    slot_of stamp l f ∷ slots_of stamps labels columns

-- how many indices are live
abbrev pub live : List (Option Entry) → ℕ
live [] = 0
live (None ∷ slots) = live slots
live (Some entry ∷ slots) = live slots + 1

-- an entry with these labels, of which nothing else is said
abbrev pub labelled : List ℕ → Entry
labelled labels = record { stamp = 0; labels = labels; columns = [] }
