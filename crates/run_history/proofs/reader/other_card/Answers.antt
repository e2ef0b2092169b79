use Rattle.std.proofs.Common.{sym}
use Rattle.run_history.proofs.Cards.{no_key, card_spelled, usual_is_none}
use Rattle.run_history.proofs.reader.other_card.Goals as goal

pub returns-in_default-key_size : goal.returns-in_default-key_size
returns-in_default-key_size c = no_key c.args.words.now c.in-Some.rest.now c.in-Some.table c.in-Some.ensures.1 c.in_default-key_size.ensures

pub returns-in-First : goal.returns-in-First
returns-in-First c =
    let spelled = card_spelled c.args.words.now c.in-Some.rest.now (record { table = c.in-Some.table; key = c.in-Some-key_size.key }) c.in-Some.ensures.1 c.in-Some-key_size.ensures.1 in
    usual_is_none c.args.words.now _ spelled (sym c.in-First.ensures.value)

pub returns-in-Second : goal.returns-in-Second
returns-in-Second c =
    let spelled = card_spelled c.args.words.now c.in-Some.rest.now (record { table = c.in-Some.table; key = c.in-Some-key_size.key }) c.in-Some.ensures.1 c.in-Some-key_size.ensures.1 in
    (sym c.in-Second.ensures.value, spelled)
