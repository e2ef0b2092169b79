-- What the tables of one chain are seen as, and what their calls do: the words of the step, over a
-- share.
use Rattle.std.specs.Prelude.{◌≡◌, ℕ, ◌-◌, max, Bool, true, false, not, ◌&&◌, nat_lt, IsTrue, List, [], ◌∷◌, map, Option, Some, None, if◌then◌else◌, slice_get, slice_set, option_and_then}
use Rattle.nf_base.specs.declared.decl.ChainDecl.{ChainDecl}
use Rattle.nf_base.specs.declared.decl.ColumnDecl.{ColumnDecl}
use Rattle.nf_base.specs.declared.decl.MapDecl.{MapDecl}
use Rattle.nf_base.specs.declared.share.Share.{Share}
use Rattle.nf_base.specs.declared.state.Chain.{Chain}
use Rattle.nf_base.specs.declared.state.Entry.{Entry}
use Rattle.nf_base.specs.Chains.{entry_at, found, is_taken, is_vacant, on_live, stamped, fresh, unexpired}
use Rattle.nf_base.specs.Context.{is_given, label_of, column_of}
use Rattle.nf_base.specs.Shares.{owns, none_vacant}
use Rattle.nf_base.specs.Step.{opening_chain}
use Rattle.vig_tables.specs.declared.created.Created.{Created}
use Rattle.vig_tables.specs.declared.created.Created.TheVariants.{Made, Taken, Full}

-- a chain beside its declaration, and the share whose indices are given out
pub record Table : Type 0 where
  pub decl : ChainDecl
  pub chain : Chain
  pub share : Share

-- a chain before anything is done with it
abbrev pub opened : ChainDecl → Share → Table
opened decl share = record { decl = decl; chain = opening_chain decl; share = share }

-- the same beside another chain
abbrev pub with_chain : Chain → Table → Table
with_chain chain t = record { decl = t.decl; chain = chain; share = t.share }

-- whether an index may be given out: it is own and vacant
abbrev pub is_open : Share → List (Option Entry) → ℕ → Bool
is_open share slots i = owns share i && is_vacant (slice_get slots i)

-- the index under a key in the map of a number: none where there is no such map
abbrev pub index_under : List MapDecl → ℕ → List ℕ → List (Option Entry) → Option ℕ
index_under maps m key slots =
    option_and_then (λ (decl : MapDecl). found decl key slots) (slice_get maps m)

-- whether a label has a value
abbrev pub has_label : ℕ × ℕ → Entry → Bool
has_label guard e = is_given guard.1 (slice_get e.labels guard.0)

-- whether labels have these values, each with the label's number
abbrev pub has_labels : List (ℕ × ℕ) → Entry → Bool
has_labels [] e = true
has_labels (guard ∷ guards) e = has_label guard e && has_labels guards e

-- an index, where its entry has some labels
abbrev pub index_with : ℕ → List (ℕ × ℕ) → Option Entry → Option ℕ
index_with i guards None = None
index_with i guards (Some e) = if has_labels guards e then Some i else None

-- what the free columns of a new entry hold: a 0 for each
abbrev pub zeros : List ColumnDecl → List ℕ
zeros columns = map (λ (column : ColumnDecl). 0) columns

-- an entry with some labels made at an index
abbrev pub entered : ℕ → ℕ → List ℕ → Table → Table
entered time i labels t =
    with_chain (stamped time i (fresh labels (zeros t.decl.columns)) t.chain) t

-- No key of some labels is taken, and no own index is vacant.
pub record FindsFull (maps : List MapDecl) (labels : List ℕ) (share : Share)
    (slots : List (Option Entry)) : Type 0 where
  pub untaken : is_taken maps labels slots ≡ false
  pub full : none_vacant (owns share) slots ≡ true

-- No key of some labels is taken, and an index is own and vacant.
pub record FindsOpen (maps : List MapDecl) (labels : List ℕ) (share : Share)
    (slots : List (Option Entry)) (i : ℕ) : Type 0 where
  pub untaken : is_taken maps labels slots ≡ false
  pub own : IsTrue (owns share i)
  pub vacant : IsTrue (is_vacant (slice_get slots i))

-- why making an entry with some labels in a chain comes to what it does
abbrev pub CauseOf : Created → List MapDecl → List ℕ → Share → List (Option Entry) → Type 0
CauseOf Taken maps labels share slots = is_taken maps labels slots ≡ true
CauseOf Full maps labels share slots = FindsFull maps labels share slots
CauseOf (Made i) maps labels share slots = FindsOpen maps labels share slots i

-- by whether an entry was made
abbrev pub if_made : {A : Type 0} → Created → (ℕ → A) → A → A
if_made (Made i) made same = made i
if_made Taken made same = same
if_made Full made same = same

-- whether an entry with some labels can be made at an index
abbrev pub can_make_at : List MapDecl → List ℕ → Share → List (Option Entry) → ℕ → Bool
can_make_at maps labels share slots i = not (is_taken maps labels slots) && is_open share slots i

-- a chain without what is past its lifetime at a time
abbrev pub without_past : ℕ → Table → Table
without_past time t = with_chain (unexpired time t.decl.lifetime t.chain) t

-- a chain that gave a stamp
abbrev pub raised : ℕ → Chain → Chain
raised stamp chain = record chain { greatest = max chain.greatest stamp }

-- an entry put at an index with other free columns
abbrev pub with_columns : List ℕ → ℕ → Entry → Chain → Chain
with_columns columns i entry chain = record chain {
  slots = slice_set chain.slots i (Some (record entry { columns = columns }));
}

-- the chain after the free columns of the entry at an index were written over
abbrev pub overwritten : List ℕ → ℕ → Chain → Chain
overwritten columns i chain = on_live (with_columns columns i) (entry_at chain.slots i) chain

-- whether an entry of other tables, if it is one, can be made at an index
abbrev pub can_adopt : Option Entry → Table → ℕ → Bool
can_adopt None t i = false
can_adopt (Some e) t i = can_make_at t.decl.maps e.labels t.share t.chain.slots i

-- an entry of other tables made at an index, with its own stamp where none so far was later
abbrev pub adopted : Option Entry → ℕ → Table → Table
adopted None i t = t
adopted (Some e) i t = with_chain (stamped e.stamp i e t.chain) t

-- A column of an entry: so many labels come first, then its free columns. 0 where there is none.
abbrev pub cell_of : ℕ → ℕ → Option Entry → ℕ
cell_of labels column e =
    if nat_lt column labels then label_of column e else column_of (column - labels) e
