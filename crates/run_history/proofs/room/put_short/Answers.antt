use Rattle.std.proofs.Common.{sym}
use Rattle.std.proofs.lemmas.Fmt.{decimal_digit}
use Rattle.run_history.proofs.Placed.{decimal_two, puts_same}
use Rattle.run_history.proofs.room.put_short.Goals as goal

pub returns-then-number-lt10-clause-put : goal.returns-then-number-lt10-clause-put
returns-then-number-lt10-clause-put c = puts_same _ _ _ _ _ _ (sym (decimal_digit c.args.number c.if-number-lt10.true)) c.put_byte.ensures

pub returns-else-number-lt10-clause-put : goal.returns-else-number-lt10-clause-put
returns-else-number-lt10-clause-put c = puts_same _ _ _ _ _ _ (decimal_two c.args.number c.if-number-lt10.false c.requires.small) c.put_pair.ensures
