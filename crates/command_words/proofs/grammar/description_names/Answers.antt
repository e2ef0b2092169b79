use Rattle.std.proofs.lemmas.Result.{IfOk-weaker}
use Rattle.command_words.specs.Grammar.{description_names}
use Rattle.command_words.proofs.Making.{new_command, with_word}
use Rattle.command_words.proofs.grammar.description_names.Goals as goal

pub returns : goal.returns
unfolding description_names
returns c =
    let start = new_command c.new.result _ c.new.ensures.app c.new.ensures.local in
    IfOk-weaker c.arg.result _ _ (λ r h. with_word c.new.result r c.word.result _ _ start c.word.ensures h) c.arg.ensures
