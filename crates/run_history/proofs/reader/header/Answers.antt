use Rattle.run_history.proofs.Answered.{usual_line_read, other_line_read, no_title}
use Rattle.run_history.proofs.reader.header.Goals as goal

pub returns-in-Some : goal.returns-in-Some
returns-in-Some c = usual_line_read c.args.words.now c.in-Some.rest.now c.usual_heading.result c.in-Some.ensures c.usual_heading.ensures

pub returns-in-Some-behind_title : goal.returns-in-Some-behind_title
returns-in-Some-behind_title c = other_line_read c.args.words.now c.in-Some-behind_title.rest.now c.other_heading.result c.in-Some-behind_title.ensures c.other_heading.ensures

pub returns-in-None : goal.returns-in-None
returns-in-None c = no_title c.args.words.now c.in_default.ensures c.in-None.ensures
