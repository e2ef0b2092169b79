use Rattle.std.proofs.Common.{◌∙◌, sym, subst, arith, ℕ, inl, inr, false}
use Rattle.std.specs.Prelude.{IsTrue}
use Rattle.std.proofs.lemmas.Option.{none-some}
use Rattle.std.proofs.lemmas.Bool.{cases_eq}
use Rattle.hash_slots.specs.Places.{IsPassed}
use Rattle.hash_slots.proofs.SlotLemmas.{slot_past}
use Rattle.hash_slots.proofs.probe.place_of.Goals as goal

not_so : IsTrue false → ⊥
not_so t = absurd (grind (arith, t))

pub loop-at-preserved : goal.loop-at-preserved
loop-at-preserved c =
    let here : IsPassed c.args.cells.now c.args.wanted c.loop-at.at = record { pair = c.in-Some.pair; there = sym c.get.ensures.value ∙ c.in-Some.is; other = λ e. not_so (c.if-is_same.ensures.1 e) } in
    record {
      from_on = omega (arith, c.loop-at.invariant.from_on);
      passed = λ x ge x_lt. elim (cases_eq x c.loop-at.at) [
        | inl e ↦ subst (λ (z : ℕ). IsPassed c.args.cells.now c.args.wanted z) (sym e) here
        | inr ne ↦ c.loop-at.invariant.passed x ge (omega arith)
      ];
    }

pub returns : goal.returns
returns c = record {
  from_on = omega (arith, c.len.ensures, c.requires);
  passed = λ x ge x_lt. c.loop-at.invariant.passed x ge (omega (arith, c.len.ensures, c.len-at-end.ensures, c.loop-at-test.false));
  stops = λ pair there. absurd (none-some pair (sym (slot_past c.args.cells.now c.len.result (omega (arith, c.len.ensures))) ∙ there));
}
