-- What a seat is seen as, and what its calls are of the history that it has seen.
use Rattle.std.specs.Prelude.{◌≡◌, ℕ, ◌≤◌, ◌<◌, List, length, take, Some, slice_get}
use Rattle.nf_base.specs.declared.packet.Packet.{Packet}
use Rattle.nf_base.specs.declared.done.Done.{Done}
use Rattle.nf_base.specs.Text.{Function}
use Rattle.lock_core.specs.declared.call.Way.{Way}
use Rattle.lock_core.specs.declared.call.Way.TheVariants.{Look, Alone}
use Rattle.lock_core.specs.declared.call.Entry.{Entry}
use Rattle.lock_core.specs.declared.call.Call.{Call}
use Rattle.lock_core.specs.Calls.{count_of}
use Rattle.lock_core.specs.Events.{IsLook, IsStep}

-- A seat's number, the beginning of the history that it has seen, its calls in their order, for how
-- many more it has room, and how often its gate refused.
pub record SeatState : Type 0 where
  pub number : ℕ
  pub seen : List Entry
  pub calls : List Call
  pub room : ℕ
  pub refused : ℕ

-- a packet of a seat as the next entry of a history
abbrev pub entry_of : ℕ → List Entry → Packet → Done → Entry
entry_of seat before packet done = record {
  seat = seat;
  number = count_of seat before;
  packet = packet;
  done = done;
}

-- A call of a seat in what the seat has seen: a look found the quiet step behind so many entries, and
-- what was handled alone made its step behind those before it, and is the next one.
abbrev pub IsMadeBy : Way → Function → ℕ → List Entry → Call → Type 0
IsMadeBy Look f seat seen c =
    (c.place ≤ length seen) × IsLook f (take c.place seen) c.packet c.done
IsMadeBy Alone f seat seen c =
    (slice_get seen c.place ≡ Some (entry_of seat (take c.place seen) c.packet c.done))
    × IsStep f (take c.place seen) c.packet c.done

-- all calls of a seat are
abbrev pub AreMade : Function → ℕ → List Entry → List Call → Type 0
AreMade f seat seen calls =
    (k : ℕ) (c : Call) → slice_get calls k ≡ Some c → IsMadeBy c.way f seat seen c

-- one of so many seats
pub record IsSeat (f : Function) (seats seat : ℕ) (seen : List Entry) (calls : List Call)
    : Type 0 where
  pub below : seat < seats
  pub made : AreMade f seat seen calls

-- all seats, each at its number
pub record AreAll (count : ℕ) (seats : List SeatState) : Type 0 where
  pub many : length seats ≡ count
  pub each : (k : ℕ) (s : SeatState) → slice_get seats k ≡ Some s → s.number ≡ k
