use Rattle.std.proofs.lemmas.Result.{IfOk-weaker}
use Rattle.command_words.specs.Grammar.{replay_app}
use Rattle.command_words.proofs.Making.{with_word}
use Rattle.command_words.proofs.grammar.replay_words.Goals as goal

pub returns : goal.returns
unfolding replay_app
returns c =
    let one = with_word c.in_ok-replay_names.field-0 c.in_ok-arg.field-0 c.words.result _ _ c.in_ok-replay_names.ensures c.words.ensures c.in_ok-arg.ensures in
    let two = with_word c.in_ok-arg.field-0 c.in_ok-arg-2.field-0 c.option.result _ _ one c.option.ensures c.in_ok-arg-2.ensures in
    IfOk-weaker c.arg-3.result _ _ (λ r h. with_word c.in_ok-arg-2.field-0 r c.flag.result _ _ two c.flag.ensures h) c.arg-3.ensures
