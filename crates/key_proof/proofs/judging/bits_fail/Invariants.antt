-- no bit so far fails
use Rattle.std.proofs.Common.{◌≡◌, ◌<◌, ◌≤◌, ℕ, false}
use Rattle.key_proof.specs.Judging.{bit_fails}
use Rattle.key_proof.proofs.judging.bits_fail.Given as goal

abbrev pub invariant-loop-u : goal.invariant-loop-u
invariant-loop-u l = (j : ℕ) → 0 ≤ j → j < l.u → bit_fails l.keys l.first l.second l.k j ≡ false
