use Rattle.std.proofs.Common.{◌≡◌, ◌<◌, ℕ, List, length, Some, slice_get}
use Rattle.lock_mode.specs.Seats.{SeatState}
use Rattle.lock_workers.proofs.sharing.are_done.Given as goal

-- the first seats have
abbrev pub invariant-loop-w : goal.invariant-loop-w
invariant-loop-w g l = (v : ℕ) (places : List ℕ) (s : SeatState) → v < l.w → slice_get l.own v ≡ Some places →
    slice_get l.seats v ≡ Some s → length s.calls ≡ length places
