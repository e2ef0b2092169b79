use Rattle.std.proofs.Common.{arith}
use Rattle.std.proofs.lemmas.Grind.{common_steps}
use Rattle.run_history.proofs.Ends.{arrays_end}
use Rattle.run_history.proofs.state_text.push_arrays.Goals as goal

pub returns : goal.returns
returns c =
    let done = arrays_end c.args.decls.now c.args.arrays.now c.loop-k.k (omega arith) in
    let all = rw done at c.loop-k.invariant in
    record { ok = grind (arith, common_steps, all) }
