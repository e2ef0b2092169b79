-- What all seats come to: one order of all that they did.
use Rattle.std.specs.Prelude.{◌≡◌, ℕ, ◌≤◌, List, [], length, Some, slice_get}
use mathlib.Core.List.{IsPrefix}
use Rattle.nf_base.specs.declared.state.State.{State}
use Rattle.nf_base.specs.Text.{Function}
use Rattle.vig_tables.specs.TablesState.{TablesState}
use Rattle.lock_core.specs.declared.call.Ordered.{Ordered}
use Rattle.lock_core.specs.Calls.{history, calls_of}
use Rattle.lock_core.specs.Histories.{Runs}
use Rattle.lock_mode.specs.Seats.{SeatState}

-- An order of all that seats did: a run of the undivided function with the very answers; in it stand
-- each seat's calls, each once, in the seat's order, and no others, a look behind as many entries as
-- it saw and before the next; and each seat has seen a beginning of its history.
pub record IsOrder (f : Function) (seats : List SeatState) (order : List Ordered) (s : State)
    : Type 0 where
  pub runs : Runs f order s
  pub calls : (k : ℕ) (seat : SeatState) → slice_get seats k ≡ Some seat →
      calls_of k order ≡ seat.calls
  pub others : (k : ℕ) → length seats ≤ k → calls_of k order ≡ []
  pub seen : (k : ℕ) (seat : SeatState) → slice_get seats k ≡ Some seat →
      IsPrefix seat.seen (history order)

-- such an order, and tables with the whole share at the last state of its run
pub record IsClosed (f : Function) (seats : List SeatState) (order : List Ordered) (t : TablesState)
    : Type 0 where
  pub order_is : IsOrder f seats order t.state
  pub decls : t.decls ≡ f.chains
  pub whole : t.share.of ≡ 1
