use Rattle.std.proofs.Common.{arith}
use Rattle.std.proofs.lemmas.Grind.{common_steps}
use Rattle.run_history.proofs.Ends.{cells_end}
use Rattle.run_history.proofs.state_text.push_cells.Goals as goal

pub returns : goal.returns
returns c =
    let done = cells_end c.args.opening.now c.args.cells.now c.loop-index.index (omega arith) in
    let all = rw done at c.loop-index.invariant in
    record { ok = grind (arith, common_steps, all) }
