-- What the declarations of a text stand for.
use Rattle.std.specs.Prelude.{ℕ, ◌==◌, ◌-◌, Bool, ◌||◌, List, [], ◌∷◌, ◌++◌, if◌then◌else◌, length, map, take, replicate, fold}
use Rattle.nf_base.specs.declared.width.Width.{Width}
use Rattle.nf_base.specs.declared.width.Width.TheVariants.{W8, W16, W32, W48, W64, W128}
use Rattle.nf_base.specs.declared.decl.ColumnDecl.{ColumnDecl}
use Rattle.nf_base.specs.declared.decl.ColumnId.TheVariants as ids
use Rattle.nf_base.specs.declared.decl.ObjectId.TheVariants as object
use Rattle.nf_base.specs.declared.decl.ChainDecl.{ChainDecl}
use Rattle.nf_base.specs.declared.decl.ArrayDecl.{ArrayDecl}
use Rattle.nf_base.specs.Values.{narrowed}
use Rattle.nf_types.specs.declared.objects.Objects.{Objects}
use Rattle.nf_tree.specs.declared.place.Name.{Name}
use Rattle.nf_tree.specs.declared.place.Literal.{Literal}
use Rattle.nf_tree.specs.declared.tree.Label as declared_label
use Rattle.nf_tree.specs.declared.tree.ColumnKind.{ColumnKind}
use Rattle.nf_tree.specs.declared.tree.ColumnKind.TheVariants.{Fixed, Free}
use Rattle.nf_tree.specs.declared.tree.Part.{Part}
use Rattle.nf_tree.specs.declared.tree.Part.TheVariants as parts
use Rattle.nf_tree.specs.declared.tree.ChainTree.{ChainTree}
use Rattle.nf_tree.specs.declared.tree.ArrayTree.{ArrayTree}
use Rattle.nf_tree.specs.declared.tree.Declaration.{Declaration}
use Rattle.nf_tree.specs.declared.tree.Declaration.TheVariants as declarations

-- the widths, in bits
abbrev pub is_width : ℕ → Bool
is_width n = n == 8 || n == 16 || n == 32 || n == 48 || n == 64 || n == 128

-- the width of so many bits
abbrev pub width_of : ℕ → Width
width_of n =
    if n == 8 then W8 else
    if n == 16 then W16 else
    if n == 32 then W32 else
    if n == 48 then W48 else
    if n == 64 then W64 else W128

-- a label or a column, with its width
abbrev pub column_of : Name → Literal → ColumnDecl
column_of x n = record { name = x.bytes; width = width_of n.value }

-- a chain with one label more
abbrev pub with_label : ChainDecl → ColumnDecl → ChainDecl
with_label d l = record d {
  labels = d.labels ++ l ∷ [];
  order = d.order ++ ids.Label (length d.labels) ∷ [];
}

-- a chain with one map more, whose key is so many labels from a first one on
abbrev pub with_map : ChainDecl → List ℕ → (first parts : ℕ) → ChainDecl
with_map d m first parts =
    record d { maps = d.maps ++ record { name = m; first = first; parts = parts } ∷ [] }

-- a chain with a label of the text more
abbrev pub with_label_of : ChainDecl → declared_label.Label → ChainDecl
with_label_of d l = with_label d (column_of l.name l.width)

-- a chain with one column more
abbrev pub with_column : ColumnKind → ChainDecl → ColumnDecl → ChainDecl
with_column Fixed d c = with_label d c
with_column Free d c =
    record d {
      columns = d.columns ++ c ∷ [];
      order = d.order ++ ids.Column (length d.columns) ∷ [];
    }

-- a chain with one part more: the labels of a map are its key
abbrev pub with_part : ChainDecl → Part → ChainDecl
with_part d (parts.Map m) =
    with_map (fold with_label_of d m.labels) m.name.bytes (length d.labels) (length m.labels)
with_part d (parts.Column c) = with_column c.kind d (column_of c.name c.width)

-- a chain before its parts
abbrev pub with_no_parts : ChainTree → ChainDecl
with_no_parts c = record {
  name = c.name.bytes;
  size = c.size.value;
  lifetime = c.lifetime.value;
  labels = [];
  columns = [];
  maps = [];
  order = [];
}

-- the labels are the key parts of the maps and the fixed columns, in text order
unfoldable pub chain_of : ChainTree → ChainDecl
chain_of c = fold with_part (with_no_parts c) c.parts

-- the opening contents are taken to the width; cells without one are 0
unfoldable pub array_of : ArrayTree → ArrayDecl
array_of a = record {
  name = a.name.bytes;
  width = width_of a.width.value;
  cells = map (λ (n : Literal). narrowed (width_of a.width.value) n.value)
      (take a.size.value a.contents) ++ replicate (a.size.value - length a.contents) 0;
}

-- the chains and arrays so far, with one declaration more
abbrev pub with_declaration : Objects → Declaration → Objects
with_declaration o (declarations.Chain c) = record {
  chains = o.chains ++ chain_of c ∷ [];
  arrays = o.arrays;
  order = o.order ++ object.Chain (length o.chains) ∷ [];
}
with_declaration o (declarations.Array a) = record {
  chains = o.chains;
  arrays = o.arrays ++ array_of a ∷ [];
  order = o.order ++ object.Array (length o.arrays) ∷ [];
}

-- what a text may name before its declarations
abbrev pub no_objects : Objects
no_objects = record { chains = []; arrays = []; order = [] }

-- the chains and arrays that a handler's text may name
abbrev pub objects_of : List Declaration → Objects
objects_of ds = fold with_declaration no_objects ds
