use Rattle.std.proofs.Common.{◌≤◌, ◌*◌, length, arith}
use Rattle.gf2_solve.proofs.PackedLemmas.{words_all}
use Rattle.gf2_solve.proofs.words.words_of.Goals as goal

pub returns-clause-bits : goal.returns-clause-bits
returns-clause-bits c =
    let all : length c.args.bits.now ≤ 64 * c.loop-k.k = grind (arith, c.loop-k-test.false) in
    words_all _ _ _ all c.loop-k.invariant
