use Rattle.std.proofs.Common.{length}
use Rattle.gf2_solve.proofs.Reducing.{IsReduced}
use Rattle.gf2_solve.proofs.elimination.rest_of.Given as goal

abbrev pub invariant-loop-lead : goal.invariant-loop-lead
invariant-loop-lead l = IsReduced l.rows l.fn.equation l.row l.sum

abbrev pub decreases-loop-lead : goal.decreases-loop-lead
decreases-loop-lead l = length l.row
