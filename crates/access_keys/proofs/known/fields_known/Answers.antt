use Rattle.std.proofs.Common.{◌≡◌, ◌∙◌, ◌<◌, ◌++◌, ◌∷◌, [], List, Option, length, map, ap, sym, arith, rules}
use Rattle.std.specs.List.{range_with_len}
use Rattle.std.proofs.lemmas.List.FromFn.{length-map-range_with_len, map-range_with_len_more}
use Rattle.nf_base.specs.declared.hash_fields.Hashable.{Hashable}
use Rattle.access_keys.specs.Together.{new_seen}
use Rattle.access_keys.specs.Speaking.{named_seen, field_in, field_known}
use Rattle.access_keys.proofs.known.fields_known.Goals as goal

pub push-requires : goal.push-requires
push-requires c =
    let f = field_known c.args.family (map new_seen c.args.all.now) c.args.chain (map named_seen c.args.named.now) in
    let known : List (Option Hashable) = c.loop-label.known in
    let n : length known ≡ c.loop-label.label = ap length c.loop-label.invariant ∙ length-map-range_with_len f 0 c.loop-label.label in
    let room : length known < 136 = omega arith in
    (search rules, room)

pub loop-label-preserved : goal.loop-label-preserved
loop-label-preserved c =
    let f = field_known c.args.family (map new_seen c.args.all.now) c.args.chain (map named_seen c.args.named.now) in
    let n = c.loop-label.label in
    c.in_ok-push.ensures.ok ∙ ap (λ (k : List (Option Hashable)). k ++ c.field_in.result ∷ []) c.loop-label.invariant
    ∙ ap (λ (y : Option Hashable). map f (range_with_len 0 n) ++ y ∷ []) (c.field_in.ensures ∙ ap (field_in c.args.family) c.field_said-field.ensures)
    ∙ sym (map-range_with_len_more f 0 n n (omega arith))
