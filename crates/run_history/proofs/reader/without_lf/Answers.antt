use Rattle.std.proofs.Common.{[], ◌∷◌}
use Rattle.std.proofs.lemmas.Slice.Eq.{strip_suffix_is}
use Rattle.std.proofs.lemmas.Bool.Decides.{Decides-eqb}
use Rattle.run_history.proofs.Answered.{is_ended}
use Rattle.run_history.proofs.reader.without_lf.Goals as goal

pub returns : goal.returns
returns c = is_ended c.args.bytes.now c.strip_suffix.result (strip_suffix_is Decides-eqb c.args.bytes.now (10 ∷ []) c.strip_suffix.result c.strip_suffix.ensures.cases)
