use Rattle.std.proofs.lemmas.Result.{IfOk-weaker}
use Rattle.command_words.specs.Grammar.{gen_names}
use Rattle.command_words.proofs.Making.{new_command, with_word}
use Rattle.command_words.proofs.grammar.gen_names.Goals as goal

pub returns : goal.returns
unfolding gen_names
returns c =
    let start = new_command c.new.result _ c.new.ensures.app c.new.ensures.local in
    let one = with_word c.new.result c.in_ok-arg.field-0 c.word.result _ _ start c.word.ensures c.in_ok-arg.ensures in
    let two = with_word c.in_ok-arg.field-0 c.in_ok-arg-2.field-0 c.word-2.result _ _ one c.word-2.ensures c.in_ok-arg-2.ensures in
    IfOk-weaker c.arg-3.result _ _ (λ r h. with_word c.in_ok-arg-2.field-0 r c.word-3.result _ _ two c.word-3.ensures h) c.arg-3.ensures
