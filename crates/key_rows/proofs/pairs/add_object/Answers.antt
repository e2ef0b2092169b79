use Rattle.std.proofs.Common.{◌≡◌, ℕ, ◌<◌, length, List, arith}
use Rattle.key_rows.specs.declared.place.Place.{Place}
use Rattle.key_rows.specs.Places.{AreAdmissible}
use Rattle.key_rows.specs.Systems.{AgreeFrom}
use Rattle.key_rows.proofs.Added.{adds_as, adds_more}
use Rattle.key_rows.proofs.Paired.{pairs_once}
use Rattle.key_rows.proofs.pairs.add_object.Goals as goal

pub loop-i-preserved : goal.loop-i-preserved
loop-i-preserved c =
    adds_more c.args.ports (λ keys i. AgreeFrom keys c.args.places.now i) c.loop-i.i c.args.system.now c.loop-i.system c.add_place.new.system c.loop-i.invariant c.in_ok-add_place.ensures

pub returns : goal.returns
returns c =
    let places : List Place = c.args.places.now in
    let all : c.loop-i.i ≡ length c.args.places.now = omega arith in
    adds_as c.args.ports (λ keys. (i : ℕ) → i < c.loop-i.i → AgreeFrom keys places i) (λ keys. AreAdmissible keys places) c.args.system.now c.loop-i.system
    (λ keys. (λ each. (pairs_once keys places).0 (λ i below. each i (omega (arith, all))), λ admissible i below. (pairs_once keys places).1 admissible i (omega (arith, all))))
    c.loop-i.invariant
