use Rattle.std.proofs.Common.{◌≡◌, ◌%◌, ◌/◌, ◌==◌, nat_lt, map}
use Rattle.std.specs.List.{range_with_len}
use Rattle.key_rows.specs.Rows.{numbered_bit}
use Rattle.key_proof.proofs.vectors.bits_of.Given as goal

abbrev pub invariant-loop-m : goal.invariant-loop-m
invariant-loop-m l = l.bits.items ≡ map (λ m. numbered_bit l.keys m == 1) (range_with_len 0 l.m)
