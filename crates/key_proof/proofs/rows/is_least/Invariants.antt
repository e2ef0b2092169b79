-- no field so far is of its class
use Rattle.std.proofs.Common.{◌≡◌, ◌==◌, not, true}
use Rattle.std.specs.List.{list_all, range_with_len}
use Rattle.key_proof.specs.Rows.{class_at}
use Rattle.key_proof.proofs.rows.is_least.Given as goal

abbrev pub invariant-loop-m : goal.invariant-loop-m
invariant-loop-m l = list_all (λ j. not (class_at l.first l.second j == class_at l.first l.second l.n)) (range_with_len 0 l.m) ≡ true
