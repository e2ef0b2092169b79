-- What a packet's handler did, operation by operation. In each definition the last list is what
-- follows.
use Rattle.std.specs.Prelude.{ℕ, ◌==◌, ◌&&◌, Bool, false, not, List, [], ◌∷◌, Option, Some, None, map, slice_get}
use Rattle.nf_base.specs.Text.{Expression, Number, Read, Index, Label, Column, Cell, Both, Given, Guard, Ending, FallsOff, Forward, Flood, Discard, Operation, Touch, Free, Set, Write, Store, Question, Get, Find, Test, Creation}
use Rattle.nf_base.specs.declared.width.Width.TheVariants.{W16}
use Rattle.nf_base.specs.declared.state.Entry.{Entry}
use Rattle.nf_base.specs.declared.state.Chain.{Chain}
use Rattle.nf_base.specs.Values.{narrowed, compares}
use Rattle.nf_base.specs.Chains.{chain_at, array_at, next_stamp}
use Rattle.nf_base.specs.Context.{Context, Var, Input, value, given, var_at, entry_in}
use Rattle.nf_base.specs.Operations.{NewResult, Stops, new_result, key_found, index_found}

-- One operation, with its outcome. A place is a statement's number in the text.
pub data Event : Type 0 where
  Tested : (place : ℕ) (holds : Bool) → Event
  LookedUp : (place chain m : ℕ) (key : List ℕ) (hit : Option ℕ) → Event
  Found : (place chain : ℕ) (hit : Option ℕ) → Event
  AskedNew : (place chain : ℕ) (labels : List ℕ) (result : NewResult) → Event
  EntryUsed : (chain index : ℕ) (changed : Bool) → Event
  EntryFreed : (chain index : ℕ) → Event
  CellRead : (place array index : ℕ) → Event
  CellWritten : (place array index : ℕ) (changed : Bool) → Event

-- an operation on the entry of a variable; a freed one is not touched
abbrev pub used : Bool → Var → List Event → List Event
used changed None rest = rest
used changed (Some at) rest = EntryUsed at.chain at.index changed ∷ rest

-- the entry of a variable is freed
abbrev pub frees : Var → List Event → List Event
frees None rest = rest
frees (Some at) rest = EntryFreed at.chain at.index ∷ rest

-- a read of a cell; past the size nothing is touched
abbrev pub loads : ℕ → ℕ → ℕ → Option ℕ → List Event → List Event
loads place array i None rest = rest
loads place array i (Some v) rest = CellRead place array i ∷ rest

-- a cell is given a value
abbrev pub stores : ℕ → ℕ → ℕ → ℕ → Option ℕ → List Event → List Event
stores place array i v None rest = rest
stores place array i v (Some before) rest = CellWritten place array i (not (before == v)) ∷ rest

-- what an expression reads, from the left
abbrev pub reads : Input → Context → Expression → List Event → List Event
reads p c (Number n) rest = rest
reads p c (Read field) rest = rest
reads p c (Index var) rest = used false (var_at c.vars var) rest
reads p c (Label var label) rest = used false (var_at c.vars var) rest
reads p c (Column var column) rest = used false (var_at c.vars var) rest
reads p c (Cell place array at) rest =
    let i = narrowed W16 (value p c at) in
    reads p c at (loads place array i (slice_get (array_at c.state.arrays array) i) rest)
reads p c (Both operator left right) rest = reads p c left (reads p c right rest)

-- what values read, one after another
abbrev pub reads_all : Input → Context → List Given → List Event → List Event
reads_all p c [] rest = rest
reads_all p c (g ∷ gs) rest = reads p c g.value (reads_all p c gs rest)

-- what the values of a `find`'s labels read
abbrev pub reads_guards : Input → Context → List Guard → List Event → List Event
reads_guards p c [] rest = rest
reads_guards p c (g ∷ gs) rest = reads p c g.given.value (reads_guards p c gs rest)

-- whether a touch changes the stamp of an entry, or the greatest one
abbrev pub restamps : ℕ → Chain → Option Entry → Bool
restamps time chain None = false
restamps time chain (Some entry) =
    not (entry.stamp == next_stamp time chain && chain.greatest == next_stamp time chain)

-- the same of a variable's entry
abbrev pub restamps_at : ℕ → List Chain → Var → Bool
restamps_at time chains None = false
restamps_at time chains (Some at) =
    restamps time (chain_at chains at.chain) (entry_in chains (Some at))

-- whether a value is another than the one that stands there, if one does
abbrev pub differs : ℕ → Option ℕ → Bool
differs v None = false
differs v (Some before) = not (before == v)

-- whether a write changes a column of an entry
abbrev pub rewrites : ℕ → ℕ → Option Entry → Bool
rewrites column v None = false
rewrites column v (Some entry) = differs v (slice_get entry.columns column)

-- an operation, with what it reads before
abbrev pub did : Input → Context → Operation → List Event → List Event
did p c (Touch var) rest =
    used (restamps_at p.time c.state.chains (var_at c.vars var)) (var_at c.vars var) rest
did p c (Free var) rest = frees (var_at c.vars var) rest
did p c (Set field g) rest = reads p c g.value rest
did p c (Write var column g) rest =
    let at = var_at c.vars var in
    reads p c g.value (used (rewrites column (given p c g) (entry_in c.state.chains at)) at rest)
did p c (Store place array at g) rest =
    let i = narrowed W16 (value p c at) in
    let cell = slice_get (array_at c.state.arrays array) i in
    reads p c at (reads p c g.value (stores place array i (given p c g) cell rest))

-- a question, with what it reads before
abbrev pub asked : Input → Context → Question → List Event → List Event
asked p c (Get place chain m key var) rest =
    let k = map (given p c) key in
    reads_all p c key (LookedUp place chain m k (key_found p c chain m k) ∷ rest)
asked p c (Find place chain at guards var) rest =
    let hit = index_found p c chain (value p c at) guards in
    reads p c at (reads_guards p c guards (Found place chain hit ∷ rest))
asked p c (Test place comparison left right) rest =
    let holds = compares comparison (value p c left) (value p c right) in
    reads p c left (reads p c right (Tested place holds ∷ rest))

-- a `new`, with what it reads before
abbrev pub asked_new : Stops → Input → Context → Creation → List Event → List Event
asked_new stops p c n rest =
    reads_all p c n.labels
    (AskedNew n.place n.chain (map (given p c) n.labels) (new_result stops p c n) ∷ rest)

-- the end of a block, and what follows where it falls off
abbrev pub ended_by : Input → Context → Ending → (Context → List Event) → List Event
ended_by p c FallsOff k = k c
ended_by p c Flood k = []
ended_by p c Discard k = []
ended_by p c (Forward port) k = reads p c port []
