use Rattle.certificate_prove.proofs.Writing.{AreZeroTo}
use Rattle.certificate_prove.proofs.leaves.are_zero_bits.Given as goal

abbrev pub invariant-loop-i : goal.invariant-loop-i
invariant-loop-i l = AreZeroTo l.rows l.fixed l.span.count l.span.first l.i
