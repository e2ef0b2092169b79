use Rattle.std.proofs.Common.{◌≡◌, ◌<◌, ℕ, zero, suc, List, [], ◌∷◌, length, get_or, refl, ap, sym, ◌∙◌, subst, arith, inl, inr}
use Rattle.std.proofs.lemmas.Bool.{cases_eq}
use Rattle.shard_machine.specs.declared.event.Event.{Event}
use Rattle.shard_core.specs.Plays.{IsValid}
use Rattle.shard_tests.proofs.playing.are_valid.Goals as goal

same_at : (xs : List Event) (i : ℕ) (d e : Event) → i < length xs → get_or xs i d ≡ get_or xs i e
same_at [] i d e lt = absurd (omega (arith, lt))
same_at (x ∷ xs) zero d e lt = refl
same_at (x ∷ xs) (suc i) d e lt = same_at xs i d e (omega (arith, lt))

pub loop-i-preserved : goal.loop-i-preserved
loop-i-preserved c = λ k d lt. elim (cases_eq k c.loop-i.i) [
  | inl same ↦
      let is : get_or c.args.events.now k d ≡ c.index-events-i.result = ap (λ (j : ℕ). get_or c.args.events.now j d) same ∙ same_at c.args.events.now c.loop-i.i d c.index-events-i.result (omega arith) ∙ sym c.index-events-i.is in
      subst (IsValid c.args.func.now c.args.workers) (sym is) (c.is_valid.ensures c.if-not-is_valid.false)
  | inr other ↦ c.loop-i.invariant k d (omega (arith, lt, other))
]
