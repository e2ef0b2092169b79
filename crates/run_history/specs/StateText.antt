-- The text of a state: its chains, then its arrays, each in text order.
use Rattle.std.specs.Prelude.{ℕ, ◌+◌, ◌==◌, List, [], ◌∷◌, ◌++◌, Option, Some, None, if◌then◌else◌, codes, decimal, slice_get}
use Rattle.nf_base.specs.declared.decl.ChainDecl.{ChainDecl}
use Rattle.nf_base.specs.declared.decl.ArrayDecl.{ArrayDecl}
use Rattle.nf_base.specs.declared.decl.ColumnDecl.{ColumnDecl}
use Rattle.nf_base.specs.declared.decl.ColumnId.{ColumnId}
use Rattle.nf_base.specs.declared.decl.ColumnId.TheVariants.{Label, Column}
use Rattle.nf_base.specs.declared.state.Entry.{Entry}
use Rattle.nf_base.specs.declared.state.Chain.{Chain}
use Rattle.nf_base.specs.declared.state.State.{State}
use Rattle.nf_base.specs.Context.{or_zero}
use Rattle.nf_base.specs.Text.{Function}

abbrev pub name_of : List ColumnDecl → ℕ → List ℕ
name_of columns number = of_column (slice_get columns number)
  where
    of_column : Option ColumnDecl → List ℕ
    of_column None = []
    of_column (Some column) = column.name

-- the name and the value of a label or a free column
abbrev pub column_text : ChainDecl → Entry → ColumnId → List ℕ
column_text decl entry (Label number) = codes " " ++ name_of decl.labels number ++ codes "=" ++ decimal (or_zero (slice_get entry.labels number))
column_text decl entry (Column number) = codes " " ++ name_of decl.columns number ++ codes "=" ++ decimal (or_zero (slice_get entry.columns number))

abbrev pub columns_text : ChainDecl → Entry → List ColumnId → List ℕ
columns_text decl entry [] = []
columns_text decl entry (column ∷ columns) = column_text decl entry column ++ columns_text decl entry columns

-- the line of an index: there is none where no entry is live
abbrev pub entry_text : ChainDecl → ℕ → Option Entry → List ℕ
entry_text decl index None = []
entry_text decl index (Some entry) = decimal index ++ codes " " ++ decimal entry.stamp ++ columns_text decl entry decl.order ++ codes "\n"

-- the lines of the indices from one on
abbrev pub slots_text : ChainDecl → ℕ → List (Option Entry) → List ℕ
slots_text decl index [] = []
slots_text decl index (slot ∷ slots) = entry_text decl index slot ++ slots_text decl (index + 1) slots

abbrev pub chain_text : ChainDecl → Chain → List ℕ
chain_text decl chain = codes "chain " ++ decl.name ++ codes " greatest " ++ decimal chain.greatest ++ codes "\n" ++ slots_text decl 0 chain.slots

abbrev pub chains_text : List ChainDecl → List Chain → List ℕ
chains_text [] chains = []
chains_text (decl ∷ decls) [] = []
chains_text (decl ∷ decls) (chain ∷ chains) = chain_text decl chain ++ chains_text decls chains

-- the line of a cell: there is none where it has its opening value
abbrev pub cell_text : ℕ → ℕ → ℕ → List ℕ
cell_text index opening cell = if cell == opening then [] else decimal index ++ codes " " ++ decimal cell ++ codes "\n"

abbrev pub cells_text : ℕ → List ℕ → List ℕ → List ℕ
cells_text index [] cells = []
cells_text index (o ∷ os) [] = []
cells_text index (o ∷ os) (c ∷ cs) = cell_text index o c ++ cells_text (index + 1) os cs

abbrev pub array_text : ArrayDecl → List ℕ → List ℕ
array_text decl cells = codes "array " ++ decl.name ++ codes "\n" ++ cells_text 0 decl.cells cells

abbrev pub arrays_text : List ArrayDecl → List (List ℕ) → List ℕ
arrays_text [] arrays = []
arrays_text (decl ∷ decls) [] = []
arrays_text (decl ∷ decls) (cells ∷ arrays) = array_text decl cells ++ arrays_text decls arrays

abbrev pub state_text : Function → State → List ℕ
state_text f s = chains_text f.chains s.chains ++ arrays_text f.arrays s.arrays
