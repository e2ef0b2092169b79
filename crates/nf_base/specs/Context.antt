-- A handler in its context, and what its text reads.
use Rattle.std.specs.Prelude.{ℕ, Bool, true, false, ◌==◌, ◌&&◌, List, [], ◌∷◌, Option, Some, None, slice_get}
use Rattle.nf_base.specs.Text.{Expression, Number, Read, Index, Label, Column, Cell, Both, Given, Guard}
use Rattle.nf_base.specs.declared.width.Width.TheVariants.{W16}
use Rattle.nf_base.specs.declared.decl.ChainDecl.{ChainDecl}
use Rattle.nf_base.specs.declared.done.Edits.{Edits}
use Rattle.nf_base.specs.declared.packet.Fields.{Fields}
use Rattle.nf_base.specs.declared.state.Entry.{Entry}
use Rattle.nf_base.specs.declared.state.Chain.{Chain}
use Rattle.nf_base.specs.declared.state.State.{State}
use Rattle.nf_base.specs.Values.{field_of, result_of, narrowed}
use Rattle.nf_base.specs.Chains.{chain_at, array_at, entry_at, joined}

-- where an entry stands
pub record EntryRef : Type 0 where
  pub chain : ℕ
  pub index : ℕ

-- a variable: where its entry stands, or None once that entry was freed
abbrev pub Var : Type 0
Var = Option EntryRef

-- a handler in its context: the state, the variables in scope, the edits so far, and the choices that
-- are left
pub record Context : Type 0 where
  pub state : State
  pub vars : List Var
  pub edits : Edits
  pub left : List ℕ

-- what one packet is to its handler
pub record Input : Type 0 where
  pub decls : List ChainDecl
  pub ports : ℕ
  pub time : ℕ
  pub fields : Fields

-- the variable of a number
abbrev pub var_at : List Var → ℕ → Var
var_at vars var = joined (slice_get vars var)

-- the entry that a variable stands for
abbrev pub entry_in : List Chain → Var → Option Entry
entry_in chains None = None
entry_in chains (Some at) = entry_at (chain_at chains at.chain).slots at.index

-- a value, or 0 where there is none
abbrev pub or_zero : Option ℕ → ℕ
or_zero None = 0
or_zero (Some v) = v

-- the index of a variable's entry
abbrev pub index_of : Var → ℕ
index_of None = 0
index_of (Some at) = at.index

-- a label of an entry
abbrev pub label_of : ℕ → Option Entry → ℕ
label_of label None = 0
label_of label (Some entry) = or_zero (slice_get entry.labels label)

-- a free column of an entry
abbrev pub column_of : ℕ → Option Entry → ℕ
column_of column None = 0
column_of column (Some entry) = or_zero (slice_get entry.columns column)

-- the value of an expression
abbrev pub value : Input → Context → Expression → ℕ
value p c (Number n) = n
value p c (Read field) = field_of p.time p.fields field
value p c (Index var) = index_of (var_at c.vars var)
value p c (Label var label) = label_of label (entry_in c.state.chains (var_at c.vars var))
value p c (Column var column) = column_of column (entry_in c.state.chains (var_at c.vars var))
value p c (Cell place array at) =
    or_zero (slice_get (array_at c.state.arrays array) (narrowed W16 (value p c at)))
value p c (Both operator left right) = result_of operator (value p c left) (value p c right)

-- a value taken to the width of what it is given to
abbrev pub given : Input → Context → Given → ℕ
given p c g = narrowed g.width (value p c g.value)

-- whether a label has a value
abbrev pub is_given : ℕ → Option ℕ → Bool
is_given v None = false
is_given v (Some w) = w == v

-- whether an entry has the labels that a `find` asks for
abbrev pub has_labels : Input → Context → List Guard → Entry → Bool
has_labels p c [] entry = true
has_labels p c (g ∷ gs) entry =
    is_given (given p c g.given) (slice_get entry.labels g.label) && has_labels p c gs entry
