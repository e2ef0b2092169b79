use Rattle.std.proofs.Common.{◌≡◌, ◌%◌, ◌/◌, ◌==◌, nat_lt, map}
use Rattle.std.specs.List.{range_with_len}
use Rattle.toeplitz_hash.specs.declared.key.TheConstants.{DEFAULT_KEY}
use Rattle.toeplitz_hash.specs.Bits.{bit_of}
use Rattle.key_proof.proofs.vectors.default_bits.Given as goal

abbrev pub invariant-loop-m : goal.invariant-loop-m
invariant-loop-m l = l.bits.items ≡ map (λ m. bit_of DEFAULT_KEY (m % 319) == 1) (range_with_len 0 l.m)
