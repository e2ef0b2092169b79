use Rattle.run_history.proofs.Cards.{key_read}
use Rattle.run_history.proofs.word.key_size.Goals as goal

pub returns-in-Some : goal.returns-in-Some
returns-in-Some c = key_read c.args.word.now c.in-Some.bytes c.of.result c.in-Some.ensures.0 c.in-Some.ensures.1 (rw c.from.ensures at c.of.ensures)
