use Rattle.std.proofs.Common.{◌≡◌, ℕ, ap, sym, ◌∙◌, ◌∷◌, [], arith}
use Rattle.toeplitz_hash.specs.Bits.{bit_of}
use Rattle.toeplitz_hash.specs.Toeplitz.{hash_of_bits, toeplitz_of}
use Rattle.toeplitz_hash.proofs.Hashes.{hash_of_none}
use Rattle.toeplitz_hash.proofs.Masks.{masked_more}
use Rattle.toeplitz_hash.proofs.hash.byte_hash.Goals as goal

pub loop-i-init : goal.loop-i-init
loop-i-init c = sym (hash_of_none (bit_of c.args.key.now) (bit_of (c.args.byte ∷ [])))

pub loop-i-preserved : goal.loop-i-preserved
loop-i-preserved c =
    masked_more c.args.key.now c.args.byte c.loop-i.i c.loop-i.hash c.first_bits-window.result c.bits_from.result c.mask_of.result
    c.loop-i-test.true c.first_bits-window.ensures c.bits_from.ensures c.mask_of.ensures c.loop-i.invariant

pub returns : goal.returns
unfolding toeplitz_of
returns c =
    let all : c.loop-i.i ≡ 8 = omega arith in
    c.loop-i.invariant ∙ ap (λ (n : ℕ). hash_of_bits n (bit_of c.args.key.now) (bit_of (c.args.byte ∷ []))) all
