use Rattle.std.proofs.Common.{◌≡◌, ◌+◌, ◌<◌, ℕ, eqb}
use Rattle.std.specs.Int.{bit_at}
use Rattle.gf2_solve.specs.Sums.{bit}
use Rattle.gf2_solve.proofs.words.word_of.Given as goal

abbrev pub invariant-loop-i : goal.invariant-loop-i
invariant-loop-i l = (j : ℕ) → j < l.i → eqb (bit_at l.word j) 1 ≡ bit l.bits (l.from + j)
