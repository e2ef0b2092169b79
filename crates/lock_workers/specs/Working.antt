-- What each worker comes to.
use Rattle.std.specs.Prelude.{◌≡◌, ◌<◌, ℕ, List, [], length, map, All, Some, slice_get}
use Rattle.nf_base.specs.declared.packet.Packet.{Packet}
use Rattle.nf_base.specs.Text.{Function}
use Rattle.nf_base.specs.Doors.{IsServed}
use Rattle.lock_core.specs.declared.call.Call.{Call}
use Rattle.lock_mode.specs.Seats.{SeatState}

-- the packets of calls, in order
abbrev pub packets_in : List Call → List Packet
packets_in calls = map (λ (c : Call). c.packet) calls

-- each of these stands among packets, at its place
abbrev pub AreAtPlaces : List Packet → List ℕ → List Packet → Type 0
AreAtPlaces packets places these =
    (k : ℕ) (p : Packet) → slice_get these k ≡ Some p →
    (place : ℕ) × (slice_get places k ≡ Some place) × (slice_get packets place ≡ Some p)

-- places of packets, each of which came in at one of a function's ports, which has a handler for it
pub record AreOf (f : Function) (packets : List Packet) (places : List ℕ) : Type 0 where
  pub ports_are : All (λ (p : Packet). p.id.port < length f.handlers) packets
  pub served_are : All (IsServed f) packets
  pub within : All (λ (place : ℕ). place < length packets) places

-- A seat called for the first of the packets at places, each once, in order.
pub record HasWorked (packets : List Packet) (places : List ℕ) (old new : SeatState) : Type 0 where
  pub number : new.number ≡ old.number
  pub called : AreAtPlaces packets places (packets_in new.calls)

-- Each seat did, for those at its places.
pub record AllHaveWorked (packets : List Packet) (own : List (List ℕ))
    (before after : List SeatState) : Type 0 where
  pub count : length after ≡ length before
  pub each : (w : ℕ) (places : List ℕ) (old new : SeatState) → slice_get own w ≡ Some places →
      slice_get before w ≡ Some old → slice_get after w ≡ Some new →
      HasWorked packets places old new

-- a seat that has not called yet, and its places
pub record CanWork (f : Function) (packets : List Packet) (own : List (List ℕ)) (i : ℕ)
    (s : SeatState) : Type 0 where
  pub within : i < length own
  pub of : (places : List ℕ) → slice_get own i ≡ Some places → AreOf f packets places
  pub none : s.calls ≡ []

-- seats, each with its places
pub record AreWorkers (f : Function) (packets : List Packet) (own : List (List ℕ))
    (seats : List SeatState) : Type 0 where
  pub as_many : length own ≡ length seats
  pub of : (w : ℕ) (places : List ℕ) → slice_get own w ≡ Some places → AreOf f packets places
  pub none : (w : ℕ) (s : SeatState) → slice_get seats w ≡ Some s → s.calls ≡ []
