use Rattle.std.proofs.Common.{arith}
use Rattle.std.proofs.lemmas.Grind.{common_steps}
use Rattle.run_history.proofs.Ends.{chains_end}
use Rattle.run_history.proofs.state_text.push_chains.Goals as goal

pub returns : goal.returns
returns c =
    let done = chains_end c.args.decls.now c.args.chains.now c.loop-k.k (omega arith) in
    let all = rw done at c.loop-k.invariant in
    record { ok = grind (arith, common_steps, all) }
