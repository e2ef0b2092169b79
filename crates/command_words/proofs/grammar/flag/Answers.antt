use Rattle.clap.specs.declared.builder.action.ArgAction.TheVariants.{SetTrue}
use Rattle.command_words.specs.Grammar.{flag}
use Rattle.command_words.proofs.Making.{new_word, long_word, acting_word}
use Rattle.command_words.proofs.grammar.flag.Goals as goal

pub returns : goal.returns
unfolding flag
returns c =
    let new = new_word c.new.result c.args.id.now c.new.ensures.rule c.new.ensures.optional in
    let long = long_word c.new.result c.long.result c.args.id _ c.long.ensures new in
    acting_word c.long.result c.action.result _ SetTrue c.action.ensures long
