use Rattle.std.proofs.Common.{get_or, ◌∷◌, [], ◌<◌, length, arith}
use Rattle.nf_base.specs.declared.hash_fields.Hashable.TheVariants.{SrcIp}
use Rattle.key_rows.proofs.Joined.{same_below, opened, one_tie}
use Rattle.key_proof.proofs.fields.classes_of.Goals as goal

pub loop-i-init : goal.loop-i-init
loop-i-init c = same_below c.args.first.now c.args.second.now (λ m. get_or (0 ∷ 1 ∷ 2 ∷ 3 ∷ 4 ∷ 5 ∷ 6 ∷ 7 ∷ []) m 0) (λ m. m) opened

pub loop-i-preserved : goal.loop-i-preserved
loop-i-preserved c =
    let in_second : c.loop-i.i < length c.args.second.now = omega arith in
    one_tie c.args.first.now c.args.second.now c.loop-i.i SrcIp SrcIp c.number.result c.number-in-loop-i.result c.loop-i.classes c.join.new.classes
    c.loop-i-test.true in_second c.number.ensures.value c.number-in-loop-i.ensures.value c.join.ensures c.loop-i.invariant
