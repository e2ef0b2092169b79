use Rattle.std.proofs.lemmas.Result.{IfOk-weaker}
use Rattle.command_words.specs.Grammar.{run_app, run_amounts, with_card}
use Rattle.command_words.proofs.Making.{moved, with_word}
use Rattle.command_words.proofs.grammar.run_words.Goals as goal

pub returns : goal.returns
unfolding run_app
returns c =
    let card = moved with_card c.in_ok-run_amounts.field-0 c.in_ok-with_card.field-0 run_amounts c.in_ok-run_amounts.ensures c.in_ok-with_card.ensures in
    IfOk-weaker c.arg.result _ _ (λ r h. with_word c.in_ok-with_card.field-0 r c.flag.result _ _ card c.flag.ensures h) c.arg.ensures
