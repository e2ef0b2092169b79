use Rattle.run_history.proofs.Fronts.{no_seq, no_worker}
use Rattle.run_history.proofs.reader.numbers_first.Goals as goal

pub returns-in_default-number_first : goal.returns-in_default-number_first
returns-in_default-number_first c =
    no_seq c.args.bytes.now c.in-Some.rest.now c.in-Some.port c.in-Some.ensures.0 c.in-Some.ensures.1 c.in_default-number_first.ensures

pub returns-in_default-number_first-2 : goal.returns-in_default-number_first-2
returns-in_default-number_first-2 c =
    no_worker c.args.bytes.now c.in-Some.rest.now c.in-Some-number_first.rest.now c.in-Some.port c.in-Some-number_first.seq
    c.in-Some.ensures.0 c.in-Some.ensures.1 c.in-Some-number_first.ensures.0 c.in-Some-number_first.ensures.1 c.in_default-number_first-2.ensures
