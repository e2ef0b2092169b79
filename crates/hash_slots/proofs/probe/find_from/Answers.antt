use Rattle.std.proofs.Common.{◌∙◌, sym, subst, arith, ℕ, inl, inr}
use Rattle.std.proofs.lemmas.Bool.{cases_eq}
use Rattle.hash_slots.specs.Places.{IsMissed}
use Rattle.hash_slots.proofs.SlotLemmas.{slot_past}
use Rattle.hash_slots.proofs.probe.find_from.Goals as goal
use Rattle.hash_slots.proofs.probe.find_from.Goals.{else-pair-tag-via-then-pair-tag+else-is_key, else-pair-tag-via-else-pair-tag}

pub loop-at-preserved : goal.loop-at-preserved
loop-at-preserved g c =
    let here : IsMissed (goal.F-post g c.args.is_key) c.args.cells.now c.args.tag c.loop-at.at = record {
      pair = c.in-Some.pair;
      there = sym c.get.ensures.value ∙ c.in-Some.is;
      other = λ same. elim c.else-pair-tag.branch [
        | else-pair-tag-via-then-pair-tag+else-is_key w ↦ w.if-is_key.ensures
        | else-pair-tag-via-else-pair-tag w ↦ absurd (w.if-pair-tag.false same)
      ];
    } in
    record {
      from_on = omega (arith, c.loop-at.invariant.from_on);
      missed = λ x ge x_lt. elim (cases_eq x c.loop-at.at) [
        | inl e ↦ subst (λ (z : ℕ). IsMissed (goal.F-post g c.args.is_key) c.args.cells.now c.args.tag z) (sym e) here
        | inr ne ↦ c.loop-at.invariant.missed x ge (omega arith)
      ];
    }

pub returns : goal.returns
returns g c = record {
  from_on = omega (arith, c.len.ensures, c.requires.within);
  missed = λ x ge x_lt. c.loop-at.invariant.missed x ge (omega (arith, c.len.ensures, c.len-at-end.ensures, c.loop-at-test.false));
  none = slot_past c.args.cells.now c.len.result (omega (arith, c.len.ensures));
  some = tt;
}
