use Rattle.std.proofs.Common.{◌≡◌, length, List, subst, sym, arith}
use Rattle.std.specs.List.{HoldsAt}
use Rattle.std.proofs.lemmas.List.Elements.{at_read}
use Rattle.key_rows.specs.declared.place.Object.{Object}
use Rattle.key_rows.specs.Places.{AreAdmissible}
use Rattle.key_rows.proofs.Added.{adds_as, adds_more, all_added}
use Rattle.key_rows.proofs.pairs.equations_of.Goals as goal

pub loop-object-preserved : goal.loop-object-preserved
loop-object-preserved c =
    let objects : List Object = c.args.objects.now in
    let x : Object = c.object-item.result in
    adds_more c.args.ports (λ keys i. HoldsAt (λ object. AreAdmissible keys object.places) objects i) c.loop-object.object-index c.in_ok-system.system c.loop-object.system c.add_object.new.system
    c.loop-object.invariant
    (adds_as c.args.ports (λ keys. AreAdmissible keys x.places) (λ keys. HoldsAt (λ object. AreAdmissible keys object.places) objects c.loop-object.object-index) c.loop-object.system c.add_object.new.system
    (λ keys. (
      λ admissible. at_read objects (λ object. AreAdmissible keys object.places) c.loop-object.object-index x c.loop-object-test.true c.object-item.is admissible,
      λ at. subst (λ (o : Object). AreAdmissible keys o.places) (sym c.object-item.is) (at x),
    ))
    c.in_ok-add_object.ensures)

pub returns : goal.returns
returns c =
    let all : c.loop-object.object-index ≡ length c.args.objects.now = omega arith in
    all_added c.args.ports c.args.objects.now c.loop-object.object-index c.in_ok-system.system c.loop-object.system c.in_ok-system.ensures all c.loop-object.invariant
