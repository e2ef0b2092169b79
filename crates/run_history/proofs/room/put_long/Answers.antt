use Rattle.std.proofs.Common.{◌/◌, ◌≤◌, arith}
use Rattle.run_history.proofs.Placed.{decimal_four, puts_both, puts_same}
use Rattle.run_history.proofs.room.put_long.Goals as goal

pub returns-clause-put : goal.returns-clause-put
returns-clause-put c =
    let large : 10000 ≤ c.args.number / 10000 = omega arith in
    puts_same _ _ _ _ _ _ (decimal_four c.args.number (omega arith) (omega arith))
    (puts_both _ _ _ _ _ _ _ _
    (puts_same _ _ _ _ _ _ (decimal_four (c.args.number / 10000) large (omega arith))
    (puts_both _ _ _ _ _ _ _ _ c.put_short-end.ensures.put c.put_four-end.ensures))
    c.put_four.ensures)
