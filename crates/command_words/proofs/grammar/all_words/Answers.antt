use Rattle.std.proofs.lemmas.Result.{IfOk-weaker}
use Rattle.command_words.specs.Grammar.{app, with_runs, with_descriptions}
use Rattle.command_words.proofs.Making.{moved, new_command, with_command}
use Rattle.command_words.proofs.grammar.all_words.Goals as goal

pub returns : goal.returns
unfolding app
returns c =
    let start = new_command c.new.result _ c.new.ensures.app c.new.ensures.local in
    let runs = moved with_runs c.new.result c.in_ok-with_runs.field-0 _ start c.in_ok-with_runs.ensures in
    let one = with_command c.in_ok-with_runs.field-0 c.in_ok-hash_words.field-0 c.in_ok-subcommand.field-0 _ _ runs c.in_ok-hash_words.ensures c.in_ok-subcommand.ensures in
    let two = with_command c.in_ok-subcommand.field-0 c.in_ok-certify_words.field-0 c.in_ok-command.command _ _ one c.in_ok-certify_words.ensures c.in_ok-command.ensures in
    IfOk-weaker c.with_descriptions.result _ _ (λ r h. moved with_descriptions c.in_ok-command.command r _ two h) c.with_descriptions.ensures
