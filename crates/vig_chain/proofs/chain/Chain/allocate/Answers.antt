use Rattle.std.proofs.Common.{inl, sym, ◌∙◌, ap, ℕ, ◌+◌}
use Rattle.std.specs.Prelude.{slice_index}
use Rattle.vig_chain.proofs.Keeping.{none_available, first_available}
use Rattle.vig_chain.proofs.chain.Chain.allocate.Goals as goal

pub returns-then-index-ring-clause-cause : goal.returns-then-index-ring-clause-cause
returns-then-index-ring-clause-cause c =
    let first = c.next-index.ensures.value ∙ ap (λ (n : ℕ). slice_index c.self.inside.heads.rings.next (n + 1)) c.size-ring.ensures.value in
    rw (← c.self.view_is) (none_available _ _ _ c.self.invariant (sym first ∙ c.if-index-ring.true ∙ ap (λ (n : ℕ). n + 1) c.size-ring.ensures.value))

pub put-requires : goal.put-requires
put-requires c =
    let first = c.next-index.ensures.value ∙ ap (λ (n : ℕ). slice_index c.self.inside.heads.rings.next (n + 1)) c.size-ring.ensures.value in
    inl (rw (← c.self.view_is) (first_available _ _ _ c.self.invariant c.next-index.result first (λ e. c.if-index-ring.false (e ∙ sym (ap (λ (n : ℕ). n + 1) c.size-ring.ensures.value)))))

pub returns-clause-cause : goal.returns-clause-cause
returns-clause-cause c =
    let first = c.next-index.ensures.value ∙ ap (λ (n : ℕ). slice_index c.self.inside.heads.rings.next (n + 1)) c.size-ring.ensures.value in
    rw (← c.self.view_is) (first_available _ _ _ c.self.invariant c.next-index.result first (λ e. c.if-index-ring.false (e ∙ sym (ap (λ (n : ℕ). n + 1) c.size-ring.ensures.value))))
