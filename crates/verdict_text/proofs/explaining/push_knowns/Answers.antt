use Rattle.std.proofs.Common.{arith}
use Rattle.std.proofs.lemmas.Grind.{common_steps}
use Rattle.verdict_text.proofs.Ends.{range_first}
use Rattle.verdict_text.proofs.explaining.push_knowns.Goals as goal

pub loop-label-preserved : goal.loop-label-preserved
loop-label-preserved c =
    let step = rw (range_first c.loop-label.label c.args.count c.loop-label-test.true) at c.loop-label.invariant in
    grind (arith, common_steps, step)
