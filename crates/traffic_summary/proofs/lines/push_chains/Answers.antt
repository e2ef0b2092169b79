use Rattle.std.proofs.Common.{arith}
use Rattle.std.proofs.lemmas.Grind.{common_steps}
use Rattle.traffic_summary.proofs.Ends.{entries_end}
use Rattle.traffic_summary.proofs.lines.push_chains.Goals as goal

pub returns : goal.returns
returns c =
    let done = entries_end c.args.decls.now c.args.chains.now c.loop-k.k (omega arith) in
    let all = rw done at c.loop-k.invariant in
    record { ok = grind (arith, common_steps, all) }
