use Rattle.std.proofs.Common.{◌≡◌, ℕ, ◌++◌, ◌∷◌, [], List, ap, sym, ◌∙◌, length, map, arith}
use Rattle.std.specs.List.{range_with_len}
use Rattle.std.proofs.lemmas.List.FromFn.{length-map-range_with_len, map-range_with_len_more}
use Rattle.key_rows.specs.Positions.{positions_at}
use Rattle.key_rows.specs.Solutions.{given_key}
use Rattle.key_rows.proofs.solution.ports_from.Goals as goal

pub push-requires : goal.push-requires
push-requires c =
    let long : length c.loop-port.keys ≡ c.loop-port.port = ap length c.loop-port.invariant ∙ length-map-range_with_len (given_key c.args.size (positions_at c.args.six.now c.args.objects.now) c.args.objects.now c.args.bits.now) 0 c.loop-port.port in
    omega (arith, long)

pub loop-port-preserved : goal.loop-port-preserved
loop-port-preserved c =
    c.in_ok-push.ensures.ok
    ∙ ap (λ (l : List (List ℕ)). l ++ c.key_given.result ∷ []) c.loop-port.invariant
    ∙ ap (λ (k : List ℕ). map (given_key c.args.size (positions_at c.args.six.now c.args.objects.now) c.args.objects.now c.args.bits.now) (range_with_len 0 c.loop-port.port) ++ k ∷ []) c.key_given.ensures
    ∙ sym (map-range_with_len_more (given_key c.args.size (positions_at c.args.six.now c.args.objects.now) c.args.objects.now c.args.bits.now) 0 c.loop-port.port c.loop-port.port (omega arith))
