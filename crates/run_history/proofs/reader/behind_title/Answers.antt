use Rattle.std.proofs.lemmas.Slice.Eq.{strip_prefix_is}
use Rattle.std.proofs.lemmas.Bool.Decides.{Decides-eqb}
use Rattle.run_history.specs.Line.{journal_title}
use Rattle.run_history.proofs.Answered.{is_behind_title}
use Rattle.run_history.proofs.reader.behind_title.Goals as goal

pub returns : goal.returns
returns c =
    let told = rw c.title.ensures at c.strip_prefix.ensures.cases in
    is_behind_title c.args.version c.args.words.now c.strip_prefix.result
    (strip_prefix_is Decides-eqb c.args.words.now (journal_title c.args.version) c.strip_prefix.result told)
