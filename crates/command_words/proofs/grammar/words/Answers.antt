use Rattle.clap.specs.declared.builder.action.ArgAction.TheVariants.{Append}
use Rattle.command_words.specs.Grammar.{words}
use Rattle.command_words.proofs.Making.{new_word, required_word, acting_word}
use Rattle.command_words.proofs.grammar.words.Goals as goal

pub returns : goal.returns
unfolding words
returns c =
    let new = new_word c.new.result c.args.id.now c.new.ensures.rule c.new.ensures.optional in
    let required = required_word c.new.result c.required.result _ c.required.ensures new in
    acting_word c.required.result c.action.result _ Append c.action.ensures required
