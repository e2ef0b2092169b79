use Rattle.std.proofs.Common.{◌≡◌, ◌%◌, ◌/◌, ◌==◌, nat_lt, map}
use Rattle.std.specs.List.{range_with_len}
use Rattle.key_proof.specs.Faults.{positions_in}
use Rattle.key_proof.proofs.vectors.counted.Given as goal

abbrev pub invariant-loop-m : goal.invariant-loop-m
invariant-loop-m l = l.bits.items ≡ map (λ m. nat_lt (m % 319) (positions_in l.subject (m / 319))) (range_with_len 0 l.m)
