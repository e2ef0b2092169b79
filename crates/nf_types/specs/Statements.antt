-- What stands in statements beside their blocks: keys, guards and the labels that a `new` gives. The first
-- argument counts the places before a part in the text.
use Rattle.std.specs.Prelude.{ℕ, ◌+◌, List, [], ◌∷◌, Option, Some, None, if◌then◌else◌, map, take, drop}
use Rattle.std.specs.Str.{bytes_eq}
use Rattle.nf_base.specs.Text.{Number, Given, Guard}
use Rattle.nf_base.specs.declared.width.Width.TheVariants.{W64}
use Rattle.nf_base.specs.declared.decl.ColumnDecl.{ColumnDecl}
use Rattle.nf_base.specs.declared.decl.MapDecl.{MapDecl}
use Rattle.nf_base.specs.declared.decl.ChainDecl.{ChainDecl}
use Rattle.nf_tree.specs.Tree as tree
use Rattle.nf_types.specs.Names.{named}
use Rattle.nf_types.specs.declared.objects.Objects.{Objects}
use Rattle.nf_types.specs.Variables.{Variable}
use Rattle.nf_types.specs.Expressions.{cells, given_to}

-- the labels that are the parts of a map's key
abbrev pub parts_of : ChainDecl → MapDecl → List ColumnDecl
parts_of d m = take m.parts (drop m.first d.labels)

-- a key has a value for each part, in the order of the parts
abbrev pub key_of : ℕ → Objects → List Variable → List ColumnDecl → List tree.Expression →
    List Given
key_of place o xs [] key = []
key_of place o xs (part ∷ parts) [] = []
key_of place o xs (part ∷ parts) (v ∷ vs) =
    given_to place o xs part.width v ∷ key_of (place + cells v) o xs parts vs

-- how many cells of arrays a key reads
abbrev pub key_cells : List tree.Expression → ℕ
key_cells [] = 0
key_cells (v ∷ vs) = cells v + key_cells vs

-- how many cells the values read that a `new` or a `where` gives
abbrev pub given_cells : List tree.Given → ℕ
given_cells [] = 0
given_cells (g ∷ gs) = cells g.value + given_cells gs

-- the chain with a name, and its number
abbrev pub chain_named : List ChainDecl → List ℕ → Option (ℕ × ChainDecl)
chain_named ds c = named (λ (d : ChainDecl). d.name) c ds

-- the map of a chain with a name, and its number
abbrev pub map_named : ChainDecl → List ℕ → Option (ℕ × MapDecl)
map_named d m = named (λ (a : MapDecl). a.name) m d.maps

-- the chain of the entries that a variable may have
abbrev pub chain_found : Option (ℕ × ChainDecl) → Option ChainDecl
chain_found None = None
chain_found (Some found) = Some found.1

-- the label with a name, and its number
abbrev pub label_named : List ColumnDecl → List ℕ → Option (ℕ × ColumnDecl)
label_named ls x = named (λ (l : ColumnDecl). l.name) x ls

-- a label that was found, with the value that it has to have
abbrev pub guard_to : ℕ → Objects → List Variable → Option (ℕ × ColumnDecl) → tree.Expression →
    Guard
guard_to place o xs None v = record { label = 0; given = given_to place o xs W64 v }
guard_to place o xs (Some found) v =
    record { label = found.0; given = given_to place o xs found.1.width v }

-- each label that a `find` asks for, with its value
abbrev pub guards_in : ℕ → Objects → List Variable → List ColumnDecl → List tree.Given → List Guard
guards_in place o xs labels [] = []
guards_in place o xs labels (g ∷ gs) =
    guard_to place o xs (label_named labels g.name.bytes) g.value
    ∷ guards_in (place + cells g.value) o xs labels gs

-- what a `find` asks of labels
abbrev pub asked : tree.Guards → List tree.Given
asked tree.Unguarded = []
asked (tree.Where gs close) = gs

-- the value that a `new` gives a label: the first that it gives that name
abbrev pub value_for : ℕ → Objects → List Variable → List tree.Given → ColumnDecl → Given
value_for place o xs [] label = record { width = label.width; value = Number 0 }
value_for place o xs (g ∷ gs) label =
    if bytes_eq label.name g.name.bytes then given_to place o xs label.width g.value
    else value_for (place + cells g.value) o xs gs label

-- the values that a `new` gives the labels of its chain, in the order of the labels
abbrev pub labels_in : ℕ → Objects → List Variable → Option (ℕ × ChainDecl) → List tree.Given →
    List Given
labels_in place o xs None gs = []
labels_in place o xs (Some found) gs = map (value_for place o xs gs) found.1.labels
