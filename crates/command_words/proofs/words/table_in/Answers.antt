use Rattle.std.proofs.Common.{◌∙◌, sym}
use Rattle.command_words.proofs.Sizes.{table_at}
use Rattle.command_words.proofs.words.table_in.Goals as goal

pub returns : goal.returns
returns c = table_at c.args.text.now c.in_ok-decimal.field-0 c.of.result (sym c.decimal.ensures ∙ c.in_ok-decimal.was) c.of.ensures
