use Rattle.std.proofs.Common.{ℕ, List, take}
use Rattle.gf2_solve.specs.Words.{AreAdded}
use Rattle.gf2_solve.proofs.words.add_rest.Given as goal

abbrev pub invariant-loop-k : goal.invariant-loop-k
invariant-loop-k l = (start : List ℕ) → AreAdded start (take l.from l.other) l.initial.row → AreAdded start (take l.k l.other) l.row
