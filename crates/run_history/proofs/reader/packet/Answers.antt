use Rattle.run_history.proofs.Fronts.{no_numbers, no_action, no_choices}
use Rattle.run_history.proofs.reader.packet.Goals as goal

pub returns-in_default : goal.returns-in_default
returns-in_default c = no_numbers c.args.words.now c.in_default.ensures

pub returns-in_default-action_first : goal.returns-in_default-action_first
returns-in_default-action_first c =
    no_action c.args.words.now c.in-Some.rest.now c.in-Some.numbers c.in-Some.ensures.0 c.in-Some.ensures.1 c.in_default-action_first.ensures

pub returns-then-not-choices : goal.returns-then-not-choices
returns-then-not-choices c =
    no_choices c.args.words.now c.in-Some.rest.now c.in-Some-action_first.rest.now c.in-Some.numbers c.in-Some-action_first.action
    c.in-Some.ensures.0 c.in-Some.ensures.1 c.in-Some-action_first.ensures.0 c.in-Some-action_first.ensures.1 c.if-not-choices.ensures
