use Rattle.std.proofs.Common.{◌≡◌, ◌≤◌, ◌<◌, ℕ, false}
use Rattle.gf2_solve.specs.Words.{bit_of}
use Rattle.gf2_solve.proofs.words.trimmed.Given as goal

abbrev pub invariant-loop-left : goal.invariant-loop-left
invariant-loop-left l = (l.left ≤ l.len) × ((i : ℕ) → l.left ≤ i → i < l.len → bit_of l.words i ≡ false)

abbrev pub decreases-loop-left : goal.decreases-loop-left
decreases-loop-left l = l.left
