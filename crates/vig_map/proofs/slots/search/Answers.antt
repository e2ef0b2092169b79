use Rattle.std.proofs.Common.{◌∙◌, sym, refl, subst, arith, ℕ, ◌<◌, length, inl, inr}
use Rattle.std.proofs.lemmas.Option.{none-some}
use Rattle.std.proofs.lemmas.Bool.{cases_eq}
use Rattle.vig_map.specs.Slots.{IsPassed}
use Rattle.vig_map.proofs.SlotLemmas.{slot_read, slot_past}
use Rattle.vig_map.proofs.slots.search.Goals as goal

pub loop-i-preserved : goal.loop-i-preserved
loop-i-preserved c =
    let lt : c.loop-i.i < length c.args.slots.now = omega arith in
    let past = c.if-stops.ensures.past refl in
    let here : IsPassed c.args.slots.now c.args.key.now c.loop-i.i = record { pair = past.0; there = sym (slot_read c.args.slots.now c.loop-i.i c.index-slots-i.result lt c.index-slots-i.is) ∙ past.1; other = past.2 } in
    record {
      from_on = omega (arith, c.loop-i.invariant.from_on);
      passed = λ x ge x_lt. elim (cases_eq x c.loop-i.i) [
        | inl e ↦ subst (λ (z : ℕ). IsPassed c.args.slots.now c.args.key.now z) (sym e) here
        | inr ne ↦ c.loop-i.invariant.passed x ge (omega arith)
      ];
    }

pub returns : goal.returns
returns c = record {
  from_on = omega (arith, c.first_slot-i.ensures.value, c.first_slot-i.ensures.within, c.requires.within);
  passed = λ x ge x_lt. c.loop-i.invariant.passed x ge (omega (arith, c.loop-i-test.false));
  stops = λ pair there. absurd (none-some pair (sym (slot_past c.args.slots.now (length c.args.slots.now) (omega arith)) ∙ there));
}
