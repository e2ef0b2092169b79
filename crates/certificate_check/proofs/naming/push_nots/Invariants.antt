-- what is due from a place on
use Rattle.std.proofs.Common.{length}
use Rattle.gf2_solve.specs.Sums.{bit}
use Rattle.certificate_check.proofs.Vectors.{AreNamed}
use Rattle.certificate_check.proofs.naming.push_nots.Given as goal

abbrev pub invariant-loop-place : goal.invariant-loop-place
invariant-loop-place l = AreNamed (bit l.counted) (length l.x) l.wanted l.x l.place l.tasks.items

abbrev pub decreases-loop-place : goal.decreases-loop-place
decreases-loop-place l = l.place
