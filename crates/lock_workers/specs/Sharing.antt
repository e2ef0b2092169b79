-- What workers come to in tables that they share.
use Rattle.std.specs.Prelude.{◌≡◌, ◌≤◌, ℕ, List, [], length, Some, slice_get}
use Rattle.nf_base.specs.declared.packet.Packet.{Packet}
use Rattle.nf_base.specs.Text.{Function}
use Rattle.vig_tables.specs.TablesState.{TablesState}
use Rattle.lock_core.specs.declared.call.Ordered.{Ordered}
use Rattle.lock_core.specs.Calls.{calls_of}
use Rattle.lock_core.specs.Histories.{Runs}
use Rattle.lock_mode.specs.Seats.{SeatState}
use Rattle.lock_mode.specs.declared.shared.Closed.{Closed}
use Rattle.lock_workers.specs.Working.{packets_in, AreAtPlaces}
use Rattle.lock_workers.specs.declared.sharing.SharingResult.{SharingResult}
use Rattle.lock_workers.specs.declared.sharing.SharingResult.TheVariants.{Together, Alone}

-- each seat has called as often as it has places
abbrev pub AreAllDone : List (List ℕ) → List SeatState → Type 0
AreAllDone own seats = (w : ℕ) (places : List ℕ) (s : SeatState) → slice_get own w ≡ Some places →
    slice_get seats w ≡ Some s → length s.calls ≡ length places

-- a worker's calls are all packets at its places
pub record HasCalled (packets : List Packet) (places : List ℕ) (w : ℕ) (order : List Ordered)
    : Type 0 where
  pub at : AreAtPlaces packets places (packets_in (calls_of w order))
  pub all : length (calls_of w order) ≡ length places

-- An order is a run of the undivided function, which comes to where tables are. In it stand the
-- calls of workers, each of which called for all packets at its places, and no others.
pub record IsShared (f : Function) (packets : List Packet) (own : List (List ℕ))
    (order : List Ordered) (t : TablesState) : Type 0 where
  pub runs : Runs f order t.state
  pub each : (w : ℕ) (places : List ℕ) → slice_get own w ≡ Some places →
      HasCalled packets places w order
  pub others : (w : ℕ) → length own ≤ w → calls_of w order ≡ []

-- where workers came to an order
abbrev pub IfTogether : SharingResult → (Closed → Type 0) → Type 0
IfTogether (Together closed) P = P closed
IfTogether (Alone tables) P = Unit {0}

-- where one is to work alone
abbrev pub IfAlone : SharingResult → (TablesState → Type 0) → Type 0
IfAlone (Together closed) P = Unit {0}
IfAlone (Alone tables) P = P tables
