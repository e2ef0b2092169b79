-- What is published: a beginning of the history with the tables that it leaves, and how it grows.
-- None of it names a type of this crate.
use Rattle.std.specs.Prelude.{◌≡◌, ℕ, ◌+◌, ◌≤◌, ◌<◌, ◌==◌, ◌&&◌, Bool, true, List, [], ◌∷◌, ◌++◌, length}
use mathlib.Core.Option.{some}
use lib.ListN.{get_elem?}
use Rattle.nf_base.specs.declared.state.State.{State}
use Rattle.nf_base.specs.Text.{Function}
use Rattle.nf_base.specs.Doors.{IsServed}
use Rattle.vig_tables.specs.TablesState.{TablesState}
use Rattle.lock_core.specs.declared.call.Entry.{Entry}
use Rattle.lock_core.specs.Events.{ComesTo}

-- tables of a function with the whole share, at the state that a history comes to
pub record RanTo (f : Function) (t : TablesState) (entries : List Entry) : Type 0 where
  pub decls : t.decls ≡ f.chains
  pub whole : t.share.of ≡ 1
  pub comes : ComesTo f entries t.state

-- A copy's function is the history's, and its tables are those that the history leaves, where it is
-- whole.
pub record Ran (f of_copy : Function) (whole : Bool) (t : TablesState) (entries : List Entry)
    : Type 0 where
  pub same : of_copy ≡ f
  pub ran : whole ≡ true → RanTo f t entries

-- a history that ends with an entry of one of the function's ports, which has a handler for it, and
-- that has a run
pub record IsNext (f : Function) (entries : List Entry) (e : Entry) : Type 0 where
  pub before : List Entry
  pub ends : entries ≡ before ++ e ∷ []
  pub port : e.packet.id.port < length f.handlers
  pub served : IsServed f e.packet
  pub state : State
  pub comes : ComesTo f entries state

-- an operation brings the history with one entry more
abbrev pub after : List Entry × Bool → List Entry → List Entry × Bool
after s entries = (entries, s.1 && (length entries == length s.0 + 1))

-- what is published is whole, and no reader knows of more entries than it has
abbrev pub Rises : List Entry × Bool → List ℕ → Type 0
Rises x views =
    (x.1 ≡ true) × ((seat v : ℕ) → get_elem? views seat ≡ some v → v ≤ length x.0)

-- so many entries are seen, no fewer than before
abbrev pub Sees : ℕ → List Entry × Bool → List Entry × Bool → ℕ → Type 0
Sees v x y w = (y.1 ≡ true) × (v ≤ length y.0) × (w ≡ length y.0)
