use Rattle.std.proofs.Common.{Bool, List, length, ap, sym, ◌∙◌, arith}
use Rattle.gf2_solve.specs.Sums.{bit}
use Rattle.key_certificate.proofs.Nots.{nots_none, nots_left, nots_more}
use Rattle.key_certificate.proofs.trees.push_each.Goals as goal

pub loop-place-init : goal.loop-place-init
loop-place-init c =
    let ground = c.args.ground.now in
    let vectors = c.args.vectors.now in
    nots_none ground.table c.args.positions.now ground.rows ground.spans vectors.counts.items vectors.wanted.items vectors.own.items c.args.fixed.now c.args.out.now.items c.requires.fixed

pub loop-place-preserved-then-not-bit_at : goal.loop-place-preserved-then-not-bit_at
loop-place-preserved-then-not-bit_at c =
    let ground = c.args.ground.now in
    let vectors = c.args.vectors.now in
    let test = c.loop-place-test.true in
    let long = ap (λ (l : List Bool). length l) c.as_slice-own.ensures.value in
    let counts = ap (λ (l : List Bool). bit l c.loop-place.place) c.as_slice-counts.ensures.value in
    nots_left ground.table c.args.positions.now ground.rows ground.spans vectors.counts.items vectors.wanted.items vectors.own.items c.loop-place.place c.loop-place.fixed c.args.out.now.items c.loop-place.out.items
    (omega (arith, test, long)) (sym counts ∙ sym c.bit_at.ensures ∙ c.if-not-bit_at.true) c.loop-place.invariant

pub loop-place-preserved : goal.loop-place-preserved
loop-place-preserved c =
    let ground = c.args.ground.now in
    let vectors = c.args.vectors.now in
    let test = c.loop-place-test.true in
    let long = ap (λ (l : List Bool). length l) c.as_slice-own.ensures.value in
    let counts = ap (λ (l : List Bool). bit l c.loop-place.place) c.as_slice-counts.ensures.value in
    let wanted = ap (λ (l : List Bool). bit l c.loop-place.place) c.as_slice-wanted.ensures.value in
    let own = ap (λ (l : List Bool). bit l c.loop-place.place) c.as_slice-own.ensures.value in
    nots_more ground.table c.args.positions.now ground.rows ground.spans vectors.counts.items vectors.wanted.items vectors.own.items c.loop-place.place c.bit_at-mine.result c.bit_at-aim.result c.loop-place.fixed c.push_bit.new.fixed
    c.args.out.now.items c.loop-place.out.items c.push_bit.new.out.items
    (omega (arith, test, long)) (sym counts ∙ sym c.bit_at.ensures ∙ c.if-not-bit_at.false) (c.bit_at-mine.ensures ∙ own) (c.bit_at-aim.ensures ∙ wanted) c.loop-place.invariant c.in_ok-push_bit.ensures.fixed c.in_ok-push_bit.ensures.leads
