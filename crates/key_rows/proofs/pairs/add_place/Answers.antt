use Rattle.std.proofs.Common.{ℕ, ◌<◌, ◌≤◌, length, List, arith}
use Rattle.key_rows.specs.declared.place.Place.{Place}
use Rattle.key_rows.specs.Places.{AgreeAt}
use Rattle.key_rows.specs.Systems.{AgreeOn, AgreeFrom}
use Rattle.key_rows.proofs.Added.{adds_as, adds_more}
use Rattle.key_rows.proofs.Paired.{pair_at}
use Rattle.key_rows.proofs.pairs.add_place.Goals as goal

pub loop-j-preserved : goal.loop-j-preserved
loop-j-preserved c =
    let places : List Place = c.args.places.now in
    let inside : c.loop-j.j < length c.args.places.now = omega arith in
    let x : Place = c.item.result.now in
    let y : Place = c.item-in-loop-j.result.now in
    adds_more c.args.ports (λ keys j. c.args.i ≤ j → AgreeOn keys places c.args.i j) c.loop-j.j c.args.system.now c.loop-j.system c.add_pair.new.system c.loop-j.invariant
    (adds_as c.args.ports (λ keys. AgreeAt keys x y) (λ keys. c.args.i ≤ c.loop-j.j → AgreeOn keys places c.args.i c.loop-j.j) c.loop-j.system c.add_pair.new.system
    (λ keys.
    let same = pair_at keys places c.args.i c.loop-j.j x y c.requires.place inside c.item.ensures c.item-in-loop-j.ensures in
    (λ agree after. same.0 agree, λ on. same.1 (on (omega arith))))
    c.in_ok-add_pair.ensures)

pub returns : goal.returns
returns c =
    let places : List Place = c.args.places.now in
    let all : length c.args.places.now ≤ c.loop-j.j = omega arith in
    let most : c.loop-j.j ≤ length c.args.places.now = omega (arith, c.loop-j.auto.j-end (omega (arith, c.requires.place, c.len-j-end.ensures)), c.len-j-end.ensures) in
    adds_as c.args.ports (λ keys. (j : ℕ) → j < c.loop-j.j → c.args.i ≤ j → AgreeOn keys places c.args.i j) (λ keys. AgreeFrom keys places c.args.i) c.args.system.now c.loop-j.system
    (λ keys. (λ each j inside after. each j (omega (arith, all)) after, λ from j below after. from j (omega (arith, most)) after))
    c.loop-j.invariant
