use Rattle.gf2_solve.proofs.Systems.{stands_more}
use Rattle.gf2_solve.proofs.system.System.add.Goals as goal

pub returns-clause-ok : goal.returns-clause-ok
returns-clause-ok c = stands_more _ _ _ (rw (c.in_ok-row.ensures, c.width.ensures) at c.narrow.ensures)
