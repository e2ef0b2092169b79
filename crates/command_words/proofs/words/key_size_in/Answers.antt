use Rattle.std.proofs.Common.{◌∙◌, sym}
use Rattle.command_words.proofs.Sizes.{key_size_at}
use Rattle.command_words.proofs.words.key_size_in.Goals as goal

pub returns : goal.returns
returns c = key_size_at c.args.text.now c.in_ok-decimal.field-0 c.of.result (sym c.decimal.ensures ∙ c.in_ok-decimal.was) c.of.ensures
