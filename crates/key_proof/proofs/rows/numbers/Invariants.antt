-- the numbers of the fields so far
use Rattle.key_proof.proofs.Named.{AreNumbersBelow}
use Rattle.key_proof.proofs.rows.numbers.Given as goal

abbrev pub invariant-loop-n : goal.invariant-loop-n
invariant-loop-n l = AreNumbersBelow l.first l.second l.k l.u l.n l.row
