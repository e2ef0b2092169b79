use Rattle.std.proofs.lemmas.Result.{IfOk-weaker}
use Rattle.command_words.specs.Grammar.{certify_app}
use Rattle.command_words.proofs.Making.{new_command, with_word}
use Rattle.command_words.proofs.grammar.certify_words.Goals as goal

pub returns : goal.returns
unfolding certify_app
returns c =
    let start = new_command c.new.result _ c.new.ensures.app c.new.ensures.local in
    let one = with_word c.new.result c.in_ok-arg.field-0 c.word.result _ _ start c.word.ensures c.in_ok-arg.ensures in
    IfOk-weaker c.arg-2.result _ _ (λ r h. with_word c.in_ok-arg.field-0 r c.word-2.result _ _ one c.word-2.ensures h) c.arg-2.ensures
