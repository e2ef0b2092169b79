use Rattle.std.proofs.Common.{◌%◌, ◌==◌, ◌++◌, ◌∷◌, [], Bool, ℕ, List, ap, sym, ◌∙◌, map, arith}
use Rattle.std.specs.List.{range_with_len}
use Rattle.std.proofs.lemmas.List.FromFn.{map-range_with_len_more}
use Rattle.toeplitz_hash.specs.declared.key.TheConstants.{DEFAULT_KEY}
use Rattle.toeplitz_hash.specs.Bits.{bit_of}
use Rattle.key_proof.proofs.vectors.default_bits.Goals as goal

pub loop-m-preserved : goal.loop-m-preserved
loop-m-preserved c =
    c.in_ok-push.ensures.items
    ∙ ap (λ (l : List Bool). l ++ (c.bit_of.result == 1) ∷ []) c.loop-m.invariant
    ∙ ap (λ (n : ℕ). map (λ m. bit_of DEFAULT_KEY (m % 319) == 1) (range_with_len 0 c.loop-m.m) ++ (n == 1) ∷ []) c.bit_of.ensures.value
    ∙ sym (map-range_with_len_more (λ m. bit_of DEFAULT_KEY (m % 319) == 1) 0 c.loop-m.m c.loop-m.m (omega arith))
