use Rattle.std.proofs.Common.{◌%◌, ◌/◌, ◌++◌, ◌∷◌, [], nat_lt, get_or, Bool, ℕ, List, ap, sym, ◌∙◌, map, arith}
use Rattle.std.specs.List.{range_with_len}
use Rattle.std.proofs.lemmas.List.FromFn.{map-range_with_len_more}
use Rattle.key_proof.specs.Faults.{positions_in}
use Rattle.key_proof.proofs.vectors.counted.Goals as goal

pub loop-m-preserved : goal.loop-m-preserved
loop-m-preserved c =
    c.in_ok-push.ensures.items
    ∙ ap (λ (l : List Bool). l ++ nat_lt (c.loop-m.m % 319) (get_or c.as_slice-positions.result.now (c.loop-m.m / 319) 0) ∷ []) c.loop-m.invariant
    ∙ ap (λ (p : List ℕ). map (λ m. nat_lt (m % 319) (positions_in c.args.subject.now (m / 319))) (range_with_len 0 c.loop-m.m) ++ nat_lt (c.loop-m.m % 319) (get_or p (c.loop-m.m / 319) 0) ∷ [])
    c.as_slice-positions.ensures.value
    ∙ sym (map-range_with_len_more (λ m. nat_lt (m % 319) (positions_in c.args.subject.now (m / 319))) 0 c.loop-m.m c.loop-m.m (omega arith))
