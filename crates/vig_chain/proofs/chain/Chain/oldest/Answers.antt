use Rattle.std.proofs.Common.{sym, ◌∙◌, ap}
use Rattle.std.specs.Prelude.{slice_index}
use Rattle.vig_chain.proofs.Keeping.{first_oldest, none_live}
use Rattle.vig_chain.proofs.chain.Chain.oldest.Goals as goal

pub returns-in-Some-clause-oldest : goal.returns-in-Some-clause-oldest
returns-in-Some-clause-oldest c =
    let first = c.next-first.ensures.value ∙ ap (slice_index c.self.inside.heads.rings.next) c.size.ensures.value in
    rw (← c.self.view_is) (first_oldest _ _ _ c.self.invariant c.next-first.result first)

pub returns-in-None-clause-none : goal.returns-in-None-clause-none
returns-in-None-clause-none c =
    let first = c.next-first.ensures.value ∙ ap (slice_index c.self.inside.heads.rings.next) c.size.ensures.value in
    rw (← c.self.view_is) (none_live _ _ _ c.self.invariant c.next-first.result first (rw (← c.self.view_is) at (sym c.in-None.ensures.value)))
