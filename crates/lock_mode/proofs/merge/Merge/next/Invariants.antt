use Rattle.std.proofs.Common.{ℕ, ◌<◌, IfSome, length}
use Rattle.lock_mode.proofs.merge.Merge.next.Given as goal

abbrev pub invariant-loop-at : goal.invariant-loop-at
invariant-loop-at g l = IfSome l.found (λ (at : ℕ). at < length l.seats)
