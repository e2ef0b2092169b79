use Rattle.clap.specs.declared.builder.action.ArgAction.TheVariants.{Set}
use Rattle.command_words.specs.Grammar.{word}
use Rattle.command_words.proofs.Making.{new_word, required_word, acting_word}
use Rattle.command_words.proofs.grammar.word.Goals as goal

pub returns : goal.returns
unfolding word
returns c =
    let new = new_word c.new.result c.args.id.now c.new.ensures.rule c.new.ensures.optional in
    let required = required_word c.new.result c.required.result _ c.required.ensures new in
    acting_word c.required.result c.action.result _ Set c.action.ensures required
