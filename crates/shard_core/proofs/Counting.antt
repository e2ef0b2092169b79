-- Calls of workers, counted.
use Rattle.std.proofs.Common.{◌≡◌, ℕ, suc, ◌==◌, eq-eqb, ne_eqb, List, Some, if◌then◌else◌, slice_get, slice_set, refl, ap, sym, ◌∙◌, subst, inl, inr}
use Rattle.std.proofs.lemmas.Option.{same_Some}
use Rattle.std.proofs.lemmas.List.{length-set}
use Rattle.nf_base.specs.Text.{Function}
use Rattle.nf_base.proofs.Mixes.{got_set}
use Rattle.shard_machine.specs.declared.event.Worked.{Worked}
use Rattle.shard_core.specs.Held as one
use Rattle.shard_core.specs.Held.{Held, WorksOnce, WorkedTimes}
use Rattle.shard_core.specs.Apart.{AreWorked, WorksAreCounted}
use Rattle.shard_core.proofs.Machines.{if_true, if_false}

not_called : (f : Function) (workers : List Held) → AreWorked f (λ w. 0) workers workers
not_called f workers = record { count = refl; each = λ w old new was is. subst (WorkedTimes f old 0) (same_Some old new (sym was ∙ is)) one.begins }

called_more : (f : Function) (counts : ℕ → ℕ) (before after : List Held) (w : ℕ) (came : Worked) (old new : Held) → AreWorked f counts before after → slice_get after w ≡ Some old → WorksOnce f came old new → AreWorked f (λ v. if w == v then suc (counts v) else counts v) before (slice_set after w new)
called_more f counts before after w came old new are at once = record {
  count = length-set after w new ∙ are.count;
  each = λ v first held was is. elim (got_set after w v new held is) [
    | inl e ↦
        let times : WorkedTimes f first (suc (counts v)) new = one.goes_on (counts v) came old new (are.each v first old was (ap (slice_get after) e.0 ∙ at)) once in
        subst (λ (k : ℕ). WorkedTimes f first k held) (sym (if_true (w == v) (suc (counts v)) (counts v) (eq-eqb _ _ (sym e.0)))) (subst (WorkedTimes f first (suc (counts v))) e.1 times)
    | inr e ↦ subst (λ (k : ℕ). WorkedTimes f first k held) (sym (if_false (w == v) (suc (counts v)) (counts v) (ne_eqb _ _ (λ q. e.0 (sym q))))) (are.each v first held was e.1)
  ];
}

pub works_are_counted : WorksAreCounted
works_are_counted = record { none = not_called; one_more = called_more }
