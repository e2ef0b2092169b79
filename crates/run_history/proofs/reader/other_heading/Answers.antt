use Rattle.run_history.proofs.Answered.{no_workers, no_card, other_read}
use Rattle.run_history.proofs.reader.other_heading.Goals as goal

pub returns-in_default-number_first : goal.returns-in_default-number_first
returns-in_default-number_first c = no_workers c.args.words.now c.in-Some.rest.now c.in-Some.mode c.in-Some.ensures.1 c.in_default-number_first.ensures

pub returns-in-Some-other_card : goal.returns-in-Some-other_card
returns-in-Some-other_card c =
    other_read c.args.words.now c.in-Some.rest.now c.in-Some-number_first.rest.now c.in-Some.mode c.in-Some-number_first.workers c.in-Some-other_card.card c.of.result
    c.in-Some.ensures.1 c.in-Some-number_first.ensures.0 c.in-Some-number_first.ensures.1 c.in-Some-other_card.ensures.0 c.in-Some-other_card.ensures.1 c.of.ensures

pub returns-in-None : goal.returns-in-None
returns-in-None c =
    no_card c.args.words.now c.in-Some.rest.now c.in-Some-number_first.rest.now c.in-Some.mode c.in-Some-number_first.workers
    c.in-Some.ensures.1 c.in-Some-number_first.ensures.0 c.in-Some-number_first.ensures.1 c.in-None.ensures
