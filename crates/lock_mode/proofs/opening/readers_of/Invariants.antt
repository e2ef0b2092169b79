use Rattle.std.proofs.Common.{◌≡◌, length}
use Rattle.lock_mode.proofs.opening.readers_of.Given as goal

abbrev pub invariant-loop : goal.invariant-loop
invariant-loop g l = length l.readers.items ≡ l.counter
