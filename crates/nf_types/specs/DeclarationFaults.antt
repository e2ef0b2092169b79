-- What is wrong with the declarations of a text, each by those before it.
use Rattle.std.specs.Prelude.{ℕ, ◌+◌, nat_le, nat_lt, Bool, true, ◌||◌, not, List, [], ◌∷◌, ◌++◌, length, map, drop}
use Rattle.nf_base.specs.declared.decl.ColumnDecl.{ColumnDecl}
use Rattle.nf_base.specs.declared.decl.MapDecl.{MapDecl}
use Rattle.nf_base.specs.declared.decl.ChainDecl.{ChainDecl}
use Rattle.nf_base.specs.declared.decl.ArrayDecl.{ArrayDecl}
use Rattle.nf_base.specs.Limits.{maps_in}
use Rattle.nf_tree.specs.declared.place.Literal.{Literal}
use Rattle.nf_tree.specs.declared.tree.Label as declared_label
use Rattle.nf_tree.specs.declared.tree.ColumnKind.{ColumnKind}
use Rattle.nf_tree.specs.declared.tree.ColumnKind.TheVariants.{Fixed, Free}
use Rattle.nf_tree.specs.declared.tree.ColumnTree.{ColumnTree}
use Rattle.nf_tree.specs.declared.tree.MapTree.{MapTree}
use Rattle.nf_tree.specs.declared.tree.Part.{Part}
use Rattle.nf_tree.specs.declared.tree.Part.TheVariants as parts
use Rattle.nf_tree.specs.declared.tree.ChainTree.{ChainTree}
use Rattle.nf_tree.specs.declared.tree.ArrayTree.{ArrayTree}
use Rattle.nf_tree.specs.declared.tree.Declaration.{Declaration}
use Rattle.nf_tree.specs.declared.tree.Declaration.TheVariants as declarations
use Rattle.nf_types.specs.declared.fault.TypingKind.TheVariants.{Twice, Limit}
use Rattle.nf_types.specs.declared.fault.Fault.{Fault}
use Rattle.nf_types.specs.declared.objects.Objects.{Objects}
use Rattle.nf_types.specs.Names.{is_among}
use Rattle.nf_types.specs.Faults.{fault_if, length_faults}
use Rattle.nf_types.specs.Declarations.{is_width, with_label_of, with_part, with_no_parts, with_declaration}

-- 1 to 4 ports
abbrev pub port_faults : Literal → List Fault
port_faults n = fault_if (nat_lt n.value 1 || nat_lt 4 n.value) Limit n.place

-- 1 to 65,536 indices or cells
abbrev pub size_faults : Literal → List Fault
size_faults n = fault_if (nat_lt n.value 1 || nat_lt 65536 n.value) Limit n.place

-- one of the widths
abbrev pub width_faults : Literal → List Fault
width_faults n = fault_if (not (is_width n.value)) Limit n.place

-- the labels and columns of a chain share one space of names, its maps another
abbrev pub names_column : ChainDecl → List ℕ → Bool
names_column d x =
    is_among x (map (λ (c : ColumnDecl). c.name) d.labels)
    || is_among x (map (λ (c : ColumnDecl). c.name) d.columns)

abbrev pub names_map : ChainDecl → List ℕ → Bool
names_map d x = is_among x (map (λ (m : MapDecl). m.name) d.maps)

-- a label of a map, behind so many others of it
unfoldable pub label_faults : ChainDecl → ℕ → declared_label.Label → List Fault
label_faults d n l =
    fault_if (names_column d l.name.bytes) Twice l.name.place
    ++ (fault_if (nat_le 8 n) Limit l.name.place
    ++ (length_faults l.name
    ++ width_faults l.width))

-- the labels of a map, one by one
abbrev pub labels_faults : ChainDecl → ℕ → List declared_label.Label → List Fault
labels_faults d n [] = []
labels_faults d n (l ∷ ls) = label_faults d n l ++ labels_faults (with_label_of d l) (n + 1) ls

-- a map is the sixteenth of all chains at most; so many stand in the chains before
unfoldable pub map_name_faults : ℕ → ChainDecl → MapTree → List Fault
map_name_faults maps d m =
    fault_if (nat_le 16 (maps + length d.maps)) Limit m.place
    ++ (fault_if (names_map d m.name.bytes) Twice m.name.place
    ++ length_faults m.name)

-- a map with its labels
unfoldable pub map_faults : ℕ → ChainDecl → MapTree → List Fault
map_faults maps d m = map_name_faults maps d m ++ labels_faults d 0 m.labels

-- how many columns of a kind stand before
abbrev pub columns_before : ColumnKind → (fixed : ℕ) → ChainDecl → ℕ
columns_before Fixed fixed d = fixed
columns_before Free fixed d = length d.columns

-- a column is the eighth of its kind in its chain at most
unfoldable pub column_faults : ℕ → ChainDecl → ColumnTree → List Fault
column_faults fixed d c =
    fault_if (nat_le 8 (columns_before c.kind fixed d)) Limit c.place
    ++ (fault_if (names_column d c.name.bytes) Twice c.name.place
    ++ (length_faults c.name
    ++ width_faults c.width))

-- a part of a chain, behind so many maps of other chains and so many fixed columns of its own
abbrev pub part_faults : (maps fixed : ℕ) → ChainDecl → Part → List Fault
part_faults maps fixed d (parts.Map m) = map_faults maps d m
part_faults maps fixed d (parts.Column c) = column_faults fixed d c

-- 1 for a fixed column, or 0
abbrev pub one_if_fixed : ColumnKind → ℕ
one_if_fixed Fixed = 1
one_if_fixed Free = 0

-- how many fixed columns there are with a part
abbrev pub fixed_with : ℕ → Part → ℕ
fixed_with fixed (parts.Map m) = fixed
fixed_with fixed (parts.Column c) = fixed + one_if_fixed c.kind

-- the parts of a chain, one by one
abbrev pub parts_faults : (maps fixed : ℕ) → ChainDecl → List Part → List Fault
parts_faults maps fixed d [] = []
parts_faults maps fixed d (p ∷ ps) =
    part_faults maps fixed d p ++ parts_faults maps (fixed_with fixed p) (with_part d p) ps

-- chains and arrays share one space of names
abbrev pub names_object : Objects → List ℕ → Bool
names_object o x =
    is_among x (map (λ (d : ChainDecl). d.name) o.chains)
    || is_among x (map (λ (d : ArrayDecl). d.name) o.arrays)

-- a chain is the eighth at most
unfoldable pub chain_faults : Objects → ChainTree → List Fault
chain_faults o c =
    fault_if (nat_le 8 (length o.chains)) Limit c.place
    ++ (fault_if (names_object o c.name.bytes) Twice c.name.place
    ++ (length_faults c.name
    ++ (size_faults c.size
    ++ parts_faults (maps_in o.chains) 0 (with_no_parts c) c.parts)))

-- the first number past the size is too many
abbrev pub contents_faults : List Literal → List Fault
contents_faults [] = []
contents_faults (n ∷ ns) = fault_if true Limit n.place

-- an array is the eighth at most
unfoldable pub array_faults : Objects → ArrayTree → List Fault
array_faults o a =
    fault_if (nat_le 8 (length o.arrays)) Limit a.place
    ++ (fault_if (names_object o a.name.bytes) Twice a.name.place
    ++ (length_faults a.name
    ++ (size_faults a.size
    ++ (width_faults a.width
    ++ contents_faults (drop a.size.value a.contents)))))

-- a declaration behind others
abbrev pub declaration_faults : Objects → Declaration → List Fault
declaration_faults o (declarations.Chain c) = chain_faults o c
declaration_faults o (declarations.Array a) = array_faults o a

-- the declarations of a text, one by one
abbrev pub declarations_faults : Objects → List Declaration → List Fault
declarations_faults o [] = []
declarations_faults o (d ∷ ds) =
    declaration_faults o d ++ declarations_faults (with_declaration o d) ds
