use Rattle.std.proofs.Common.{◌<◌, length, arith}
use Rattle.gf2_solve.proofs.LaneLemmas.{added_more}
use Rattle.gf2_solve.proofs.words.add_rest.Goals as goal

pub loop-k-preserved : goal.loop-k-preserved
loop-k-preserved c =
    let within : c.loop-k.k < length c.loop-k.row = grind arith in
    λ start before. added_more _ _ _ _ within (c.loop-k.invariant start before)
