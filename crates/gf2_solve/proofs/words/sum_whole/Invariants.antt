use Rattle.std.proofs.Common.{◌≡◌, ◌*◌}
use Rattle.gf2_solve.specs.Sums.{sum_of}
use Rattle.gf2_solve.specs.Words.{bits_in, low_sum}
use Rattle.gf2_solve.proofs.words.sum_whole.Given as goal

abbrev pub invariant-loop-k : goal.invariant-loop-k
invariant-loop-k l = low_sum l.sums 64 ≡ sum_of (bits_in l.row (64 * l.k)) (bits_in l.x (64 * l.k))
