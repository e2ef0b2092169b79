use Rattle.run_history.proofs.Answered.{line_answer, no_answer}
use Rattle.run_history.proofs.reader.read_line.Goals as goal

pub returns-in-Some : goal.returns-in-Some
returns-in-Some c =
    let all = line_answer c.args.bytes.now c.in-Some.words.now c.line.result c.in-Some.ensures c.line.ensures in
    record { some = all.some; none = all.none; inverts = all.inverts }

pub returns-in-None : goal.returns-in-None
returns-in-None c =
    let all = no_answer c.args.bytes.now c.in-None.ensures in
    record { some = all.some; none = all.none; inverts = all.inverts }
