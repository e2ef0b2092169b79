-- no class so far fails
use Rattle.std.proofs.Common.{◌≡◌, ◌<◌, ◌≤◌, ℕ, false}
use Rattle.key_proof.specs.Judging.{class_fails}
use Rattle.key_proof.proofs.judging.classes_fail.Given as goal

abbrev pub invariant-loop-k : goal.invariant-loop-k
invariant-loop-k l = (j : ℕ) → 0 ≤ j → j < l.k → class_fails l.keys l.port l.first l.second j ≡ false
