use Rattle.std.proofs.Common.{◌≡◌, ◌∷◌, []}
use Rattle.toeplitz_hash.specs.Bits.{bit_of}
use Rattle.toeplitz_hash.specs.Toeplitz.{hash_of_bits}
use Rattle.toeplitz_hash.proofs.hash.byte_hash.Given as goal

abbrev pub invariant-loop-i : goal.invariant-loop-i
invariant-loop-i l = l.hash ≡ hash_of_bits l.i (bit_of l.key) (bit_of (l.byte ∷ []))
