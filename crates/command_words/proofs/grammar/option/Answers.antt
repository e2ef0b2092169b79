use Rattle.clap.specs.declared.builder.action.ArgAction.TheVariants.{Set}
use Rattle.command_words.specs.Grammar.{option}
use Rattle.command_words.proofs.Making.{new_word, long_word, acting_word}
use Rattle.command_words.proofs.grammar.option.Goals as goal

pub returns : goal.returns
unfolding option
returns c =
    let new = new_word c.new.result c.args.id.now c.new.ensures.rule c.new.ensures.optional in
    let long = long_word c.new.result c.long.result c.args.id _ c.long.ensures new in
    acting_word c.long.result c.action.result _ Set c.action.ensures long
