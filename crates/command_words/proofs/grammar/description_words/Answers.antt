use Rattle.std.proofs.lemmas.Result.{IfOk-weaker}
use Rattle.command_words.specs.Grammar.{description_app, description_names, with_card}
use Rattle.command_words.proofs.Making.{moved}
use Rattle.command_words.proofs.grammar.description_words.Goals as goal

pub returns : goal.returns
unfolding description_app
returns c =
    IfOk-weaker c.with_card.result _ _ (λ r h. moved with_card c.in_ok-description_names.field-0 r _ c.in_ok-description_names.ensures h) c.with_card.ensures
