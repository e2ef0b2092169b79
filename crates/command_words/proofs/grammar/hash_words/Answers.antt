use Rattle.std.proofs.lemmas.Result.{IfOk-weaker}
use Rattle.command_words.specs.Grammar.{hash_app, with_card}
use Rattle.command_words.proofs.Making.{moved, new_command, with_word}
use Rattle.command_words.proofs.grammar.hash_words.Goals as goal

pub returns : goal.returns
unfolding hash_app
returns c =
    let start = new_command c.new.result _ c.new.ensures.app c.new.ensures.local in
    let one = with_word c.new.result c.in_ok-arg.field-0 c.word.result _ _ start c.word.ensures c.in_ok-arg.ensures in
    let two = with_word c.in_ok-arg.field-0 c.in_ok-arg-2.field-0 c.word-2.result _ _ one c.word-2.ensures c.in_ok-arg-2.ensures in
    let three = with_word c.in_ok-arg-2.field-0 c.in_ok-arg-3.field-0 c.option.result _ _ two c.option.ensures c.in_ok-arg-3.ensures in
    let four = with_word c.in_ok-arg-3.field-0 c.in_ok-command.command c.option-2.result _ _ three c.option-2.ensures c.in_ok-command.ensures in
    IfOk-weaker c.with_card.result _ _ (λ r h. moved with_card c.in_ok-command.command r _ four h) c.with_card.ensures
