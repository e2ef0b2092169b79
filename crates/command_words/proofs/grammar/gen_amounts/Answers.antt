use Rattle.std.proofs.lemmas.Result.{IfOk-weaker}
use Rattle.command_words.specs.Grammar.{gen_amounts}
use Rattle.command_words.proofs.Making.{with_word}
use Rattle.command_words.proofs.grammar.gen_amounts.Goals as goal

pub returns : goal.returns
unfolding gen_amounts
returns c =
    let one = with_word c.in_ok-gen_names.field-0 c.in_ok-arg.field-0 c.word.result _ _ c.in_ok-gen_names.ensures c.word.ensures c.in_ok-arg.ensures in
    IfOk-weaker c.arg-2.result _ _ (λ r h. with_word c.in_ok-arg.field-0 r c.word-2.result _ _ one c.word-2.ensures h) c.arg-2.ensures
