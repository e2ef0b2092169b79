use Rattle.gf2_solve.specs.Kept.{kept}
use Rattle.gf2_solve.proofs.Systems.{excluded}
use Rattle.gf2_solve.proofs.system.System.excludes.Goals as goal

pub returns : goal.returns
returns c = λ yes.
    let gap = rw c.as_slice.ensures.value at (c.contradicts.ensures yes) in
    rw (← c.self.view_is) (excluded (kept c.self.inside.rows.items c.self.inside.possible) _ _ _ c.in_ok-row.ensures gap)
