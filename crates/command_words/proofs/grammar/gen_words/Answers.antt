use Rattle.std.proofs.lemmas.Result.{IfOk-weaker}
use Rattle.command_words.specs.Grammar.{gen_app, gen_amounts, with_card}
use Rattle.command_words.proofs.Making.{moved, with_word}
use Rattle.command_words.proofs.grammar.gen_words.Goals as goal

pub returns : goal.returns
unfolding gen_app
returns c =
    let one = with_word c.in_ok-gen_amounts.field-0 c.in_ok-arg.field-0 c.option.result _ _ c.in_ok-gen_amounts.ensures c.option.ensures c.in_ok-arg.ensures in
    let two = with_word c.in_ok-arg.field-0 c.in_ok-command.command c.option-2.result _ _ one c.option-2.ensures c.in_ok-command.ensures in
    let card = moved with_card c.in_ok-command.command c.in_ok-with_card.field-0 _ two c.in_ok-with_card.ensures in
    IfOk-weaker c.arg-3.result _ _ (λ r h. with_word c.in_ok-with_card.field-0 r c.flag.result _ _ card c.flag.ensures h) c.arg-3.ensures
