use Rattle.std.proofs.Common.{arith}
use Rattle.run_history.proofs.Placed.{decimal_pair, puts_both, puts_same}
use Rattle.run_history.proofs.room.put_to_four.Goals as goal

pub returns-clause-put : goal.returns-clause-put
returns-clause-put c =
    puts_same _ _ _ _ _ _ (decimal_pair c.args.number c.if-number-lt100.false (omega arith))
    (puts_both _ _ _ _ _ _ _ _ c.put_short-end.ensures.put c.put_pair.ensures)
