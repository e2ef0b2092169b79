use Rattle.std.proofs.lemmas.Result.{IfOk-weaker}
use Rattle.command_words.specs.Grammar.{keys_app}
use Rattle.command_words.proofs.Making.{with_word}
use Rattle.command_words.proofs.grammar.keys_words.Goals as goal

pub returns : goal.returns
unfolding keys_app
returns c =
    IfOk-weaker c.arg.result _ _ (λ r h. with_word c.in_ok-description_words.field-0 r c.option.result _ _ c.in_ok-description_words.ensures c.option.ensures h) c.arg.ensures
