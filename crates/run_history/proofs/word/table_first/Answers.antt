use Rattle.run_history.proofs.Cards.{no_such_table}
use Rattle.run_history.proofs.word.table_first.Goals as goal

pub returns-in-None : goal.returns-in-None
returns-in-None c = λ t later h e. no_such_table c.args.bytes.now c.in-Some.rest.now c.in-Some.entries c.in-Some.ensures.0 c.in-Some.ensures.1 (rw c.from.ensures at c.in-None.ensures) t later e
