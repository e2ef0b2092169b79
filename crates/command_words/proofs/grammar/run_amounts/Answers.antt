use Rattle.std.proofs.lemmas.Result.{IfOk-weaker}
use Rattle.command_words.specs.Grammar.{run_amounts}
use Rattle.command_words.proofs.Making.{with_word}
use Rattle.command_words.proofs.grammar.run_amounts.Goals as goal

pub returns : goal.returns
unfolding run_amounts
returns c =
    let one = with_word c.in_ok-run_names.field-0 c.in_ok-arg.field-0 c.option.result _ _ c.in_ok-run_names.ensures c.option.ensures c.in_ok-arg.ensures in
    let two = with_word c.in_ok-arg.field-0 c.in_ok-arg-2.field-0 c.option-2.result _ _ one c.option-2.ensures c.in_ok-arg-2.ensures in
    IfOk-weaker c.arg-3.result _ _ (λ r h. with_word c.in_ok-arg-2.field-0 r c.option-3.result _ _ two c.option-3.ensures h) c.arg-3.ensures
