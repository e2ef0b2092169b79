use Rattle.run_history.proofs.Answered.{usual_read}
use Rattle.run_history.proofs.reader.usual_heading.Goals as goal

pub returns-in-Some-number : goal.returns-in-Some-number
returns-in-Some-number c =
    usual_read c.args.words.now c.in-Some.rest.now c.in-Some.mode c.in-Some-number.workers c.of.result c.in-Some.ensures.1 c.in-Some-number.ensures.0 c.in-Some-number.ensures.1 (rw c.usual.ensures at c.of.ensures)
