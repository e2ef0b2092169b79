-- no bit so far is 1
use Rattle.std.proofs.Common.{◌≡◌, ◌<◌, ◌≤◌, ◌==◌, ℕ, false}
use Rattle.toeplitz_hash.specs.Bits.{bit_of}
use Rattle.key_proof.proofs.judging.has_one.Given as goal

abbrev pub invariant-loop-i : goal.invariant-loop-i
invariant-loop-i l = (j : ℕ) → l.from ≤ j → j < l.i → (bit_of l.key j == 1) ≡ false
