-- all fields of the class so far are longer
use Rattle.std.proofs.Common.{◌≡◌, ◌<◌, ◌≤◌, ℕ, true}
use Rattle.key_proof.specs.Rows.{is_longer}
use Rattle.key_proof.proofs.rows.are_longer.Given as goal

abbrev pub invariant-loop-m : goal.invariant-loop-m
invariant-loop-m l = (j : ℕ) → 0 ≤ j → j < l.m → is_longer l.first l.second l.k l.t j ≡ true
