-- all fields of the class so far have the bit
use Rattle.std.proofs.Common.{◌≡◌, ◌<◌, ◌≤◌, ℕ, true}
use Rattle.key_proof.specs.Judging.{has_bit}
use Rattle.key_proof.proofs.judging.are_within.Given as goal

abbrev pub invariant-loop-m : goal.invariant-loop-m
invariant-loop-m l = (j : ℕ) → 0 ≤ j → j < l.m → has_bit l.first l.second l.k l.u j ≡ true
