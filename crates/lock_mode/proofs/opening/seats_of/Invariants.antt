use Rattle.std.proofs.Common.{◌≡◌, ◌+◌, length}
use Rattle.lock_mode.specs.Opening.{AreNew}
use Rattle.lock_mode.proofs.opening.seats_of.Given as goal

abbrev pub invariant-loop-number : goal.invariant-loop-number
invariant-loop-number g l = (length l.readers.items + l.number ≡ l.seats) × AreNew l.number l.all.items
