use Rattle.std.proofs.Common.{rules, refl}
use Rattle.clap.specs.Words.{rows_of, found_of}
use Rattle.command_words.proofs.Rows.{met, unmet}
use Rattle.command_words.proofs.words.in_match.Goals as goal

pub returns-in-Some-clause-value : goal.returns-in-Some-clause-value
returns-in-Some-clause-value c =
    let found = met c.args.matches.now c.in-Some.name.now (rows_of (found_of c.in-Some.found.now)) (search rules) (search rules) in
    rw found c.named.ensures.value

pub returns-in-None-clause-value : goal.returns-in-None-clause-value
returns-in-None-clause-value c = rw (unmet c.args.matches.now (search rules)) refl
