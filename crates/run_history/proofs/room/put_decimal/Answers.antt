use Rattle.std.proofs.Common.{arith}
use Rattle.run_history.proofs.Placed.{decimal_four, puts_both, puts_same}
use Rattle.run_history.proofs.room.put_decimal.Goals as goal

pub returns-clause-put : goal.returns-clause-put
returns-clause-put c =
    puts_same _ _ _ _ _ _ (decimal_four c.args.number c.if-number-lt10000.false (omega arith))
    (puts_both _ _ _ _ _ _ _ _ c.put_to_four-end.ensures.put c.put_four.ensures)
