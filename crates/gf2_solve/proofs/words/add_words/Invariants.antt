use Rattle.std.proofs.Common.{◌*◌, take}
use Rattle.gf2_solve.specs.Words.{AreAdded}
use Rattle.gf2_solve.proofs.words.add_words.Given as goal

abbrev pub invariant-loop-k : goal.invariant-loop-k
invariant-loop-k l = AreAdded l.initial.row (take (4 * l.k) l.other) l.row
