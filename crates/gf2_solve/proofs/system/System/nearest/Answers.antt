use Rattle.std.proofs.Common.{arith}
use Rattle.gf2_solve.proofs.Closing.{closing_more, answers_found}
use Rattle.gf2_solve.proofs.system.System.nearest.Goals as goal

pub loop-i-preserved : goal.loop-i-preserved
loop-i-preserved c =
    let fixed = rw c.bit.ensures at c.in_ok-fix.ensures in
    closing_more _ _ _ _ _ _ _ _ c.loop-i.invariant c.in_ok-best-2.ensures fixed

pub returns : goal.returns
returns c = answers_found _ _ _ _ _ c.loop-i.i (omega arith) c.loop-i.invariant
