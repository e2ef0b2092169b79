use Rattle.std.proofs.lemmas.Result.{IfOk-weaker}
use Rattle.command_words.specs.Grammar.{with_card}
use Rattle.command_words.proofs.Making.{own, with_word}
use Rattle.command_words.proofs.grammar.with_card.Goals as goal

pub returns : goal.returns
unfolding with_card
returns c =
    let start = own c.args.command c.requires.local in
    let one = with_word c.args.command c.in_ok-arg.field-0 c.option.result _ _ start c.option.ensures c.in_ok-arg.ensures in
    IfOk-weaker c.arg-2.result _ _ (λ r h. with_word c.in_ok-arg.field-0 r c.option-2.result _ _ one c.option-2.ensures h) c.arg-2.ensures
