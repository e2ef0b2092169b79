use Rattle.std.proofs.Common.{◌∙◌, ap, ℕ, ◌+◌}
use Rattle.std.specs.Prelude.{slice_index}
use Rattle.vig_chain.proofs.Keeping.{fullness}
use Rattle.vig_chain.proofs.chain.Chain.is_full.Goals as goal

pub returns : goal.returns
returns c =
    let first = c.next.ensures.value ∙ ap (λ (n : ℕ). slice_index c.self.inside.heads.rings.next (n + 1)) c.size-ring.ensures.value in
    rw (← c.self.view_is, c.size-ring.ensures.value) (fullness _ _ _ c.self.invariant c.next.result first)
