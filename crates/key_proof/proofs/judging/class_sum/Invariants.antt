-- the sum over the fields so far
use Rattle.key_proof.proofs.Judged.{IsSumBelow}
use Rattle.key_proof.proofs.judging.class_sum.Given as goal

abbrev pub invariant-loop-n : goal.invariant-loop-n
invariant-loop-n l = IsSumBelow l.first l.second l.key l.other l.k l.u l.n l.sum
