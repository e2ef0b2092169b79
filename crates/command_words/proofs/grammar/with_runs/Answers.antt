use Rattle.std.proofs.lemmas.Result.{IfOk-weaker}
use Rattle.command_words.specs.Grammar.{with_runs}
use Rattle.command_words.proofs.Making.{own, with_command}
use Rattle.command_words.proofs.grammar.with_runs.Goals as goal

pub returns : goal.returns
unfolding with_runs
returns c =
    let start = own c.args.command c.requires.local in
    let one = with_command c.args.command c.in_ok-run_words.field-0 c.in_ok-subcommand.field-0 _ _ start c.in_ok-run_words.ensures c.in_ok-subcommand.ensures in
    let two = with_command c.in_ok-subcommand.field-0 c.in_ok-replay_words.field-0 c.in_ok-subcommand-2.field-0 _ _ one c.in_ok-replay_words.ensures c.in_ok-subcommand-2.ensures in
    IfOk-weaker c.subcommand-3.result _ _ (λ r h. with_command c.in_ok-subcommand-2.field-0 c.in_ok-gen_words.field-0 r _ _ two c.in_ok-gen_words.ensures h) c.subcommand-3.ensures
