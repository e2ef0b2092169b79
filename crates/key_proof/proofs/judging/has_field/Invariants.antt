-- no field so far is of the class
use Rattle.std.proofs.Common.{◌≡◌, ◌<◌, ◌≤◌, ◌==◌, ℕ, false}
use Rattle.key_proof.specs.Rows.{class_at}
use Rattle.key_proof.proofs.judging.has_field.Given as goal

abbrev pub invariant-loop-m : goal.invariant-loop-m
invariant-loop-m l = (j : ℕ) → l.from ≤ j → j < l.m → (class_at l.first l.second j == l.k) ≡ false
