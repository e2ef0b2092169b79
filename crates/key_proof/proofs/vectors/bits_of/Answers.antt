use Rattle.std.proofs.Common.{◌%◌, ◌/◌, ◌<◌, ◌==◌, ◌++◌, ◌∷◌, [], Bool, ℕ, List, ap, sym, ◌∙◌, map, length, arith}
use Rattle.std.specs.List.{range_with_len}
use Rattle.std.proofs.lemmas.List.{get_or_default}
use Rattle.std.proofs.lemmas.List.FromFn.{map-range_with_len_more}
use Rattle.toeplitz_hash.specs.Bits.{bit_of}
use Rattle.key_rows.specs.Rows.{numbered_bit}
use Rattle.key_proof.proofs.vectors.bits_of.Goals as goal

pub loop-m-preserved : goal.loop-m-preserved
loop-m-preserved c =
    let below : c.loop-m.m / 319 < length c.args.keys.now.ports = omega (arith, c.loop-m-test.true, c.len-m-end.ensures.value) in
    c.in_ok-push.ensures.items
    ∙ ap (λ (l : List Bool). l ++ (c.bit_of.result == 1) ∷ []) c.loop-m.invariant
    ∙ ap (λ (n : ℕ). map (λ m. numbered_bit c.args.keys.now m == 1) (range_with_len 0 c.loop-m.m) ++ (n == 1) ∷ [])
    (c.bit_of.ensures.value
    ∙ ap (λ (k : List ℕ). bit_of k (c.loop-m.m % 319)) (c.as_slice-key.ensures.value ∙ c.item.ensures ∙ get_or_default c.args.keys.now.ports (c.loop-m.m / 319) c.item.result.now [] below))
    ∙ sym (map-range_with_len_more (λ m. numbered_bit c.args.keys.now m == 1) 0 c.loop-m.m c.loop-m.m (omega arith))
