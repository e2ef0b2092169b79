use Rattle.gf2_solve.proofs.PackedLemmas.{AreWords}
use Rattle.gf2_solve.proofs.words.words_of.Given as goal

abbrev pub invariant-loop-k : goal.invariant-loop-k
invariant-loop-k l = AreWords l.bits l.k l.words.items
