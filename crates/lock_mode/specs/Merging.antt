-- An order that is being put together of the calls of all seats.
use Rattle.std.specs.Prelude.{◌≡◌, ℕ, ◌+◌, ◌≤◌, ◌<◌, List, [], length, map, take, get_or, Some, slice_get}
use mathlib.Core.List.{IsPrefix}
use Rattle.nf_base.specs.declared.state.State.{State}
use Rattle.nf_base.specs.Text.{Function}
use Rattle.lock_core.specs.declared.call.Way.{Way}
use Rattle.lock_core.specs.declared.call.Way.TheVariants.{Look, Alone}
use Rattle.lock_core.specs.declared.call.Entry.{Entry}
use Rattle.lock_core.specs.declared.call.Call.{Call}
use Rattle.lock_core.specs.declared.call.Ordered.{Ordered}
use Rattle.lock_core.specs.Calls.{history, calls_of}
use Rattle.lock_core.specs.Events.{ComesTo}
use Rattle.lock_core.specs.Histories.{Runs}
use Rattle.lock_log.specs.declared.order.Turn.{Turn}
use Rattle.lock_log.specs.Turns.{in_turn, AreThere}
use Rattle.lock_mode.specs.Seats.{SeatState}
use Rattle.lock_mode.specs.Closing.{IsOrder}

-- each of the first seats has seen a beginning of a history
abbrev pub HaveSeen : List SeatState → List Entry → ℕ → Type 0
HaveSeen seats all count =
    (k : ℕ) (seat : SeatState) → k < count → slice_get seats k ≡ Some seat →
    IsPrefix seat.seen all

-- So many calls of each seat were taken, and they stand in the order, which is a run; so many entries
-- of the whole history do.
pub record IsMerged (f : Function) (all : List Entry) (seats : List SeatState)
    (order : List Ordered) (taken : List ℕ) (entries : ℕ) : Type 0 where
  pub state : State
  pub runs : Runs f order state
  pub comes : ComesTo f (history order) state
  pub prefix : history order ≡ take entries all
  pub within : entries ≤ length all
  pub many : length taken ≡ length seats
  pub calls : (k : ℕ) (seat : SeatState) → slice_get seats k ≡ Some seat →
      calls_of k order ≡ take (get_or taken k 0) seat.calls
  pub others : (k : ℕ) → length seats ≤ k → calls_of k order ≡ []

-- the calls of each seat
abbrev pub calls_each : List SeatState → List (List Call)
calls_each seats = map (λ (s : SeatState). s.calls) seats

-- turns of an order that is being put together so
pub record AreTurns (f : Function) (all : List Entry) (seats : List SeatState) (turns : List Turn)
    (taken : List ℕ) (entries : ℕ) : Type 0 where
  pub there : AreThere (calls_each seats) turns
  pub merged : IsMerged f all seats (in_turn (calls_each seats) turns) taken entries

-- the calls of each of the first seats were all taken
abbrev pub AreTaken : List SeatState → List ℕ → ℕ → Type 0
AreTaken seats taken count =
    (k : ℕ) (seat : SeatState) → k < count → slice_get seats k ≡ Some seat →
    length seat.calls ≤ get_or taken k 0

-- how many entries a history of so many has behind a call, where it has room for one more
abbrev pub IsBehind : Way → ℕ → ℕ → ℕ → Type 0
IsBehind Look entries last new = new ≡ entries
IsBehind Alone entries last new = entries < last → new ≡ entries + 1

-- an order of all that seats did, whose run ends where a history does
pub record AreMerged (f : Function) (all : List Entry) (seats : List SeatState)
    (order : List Ordered) : Type 0 where
  pub state : State
  pub comes : ComesTo f all state
  pub order_is : IsOrder f seats order state
