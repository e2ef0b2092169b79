use Rattle.std.proofs.Common.{refl}
use Rattle.nf_laws.proofs.rows.an_array_counts.Goals as goal

pub returns : goal.returns
returns c = record { actions = refl; state = refl; touched = refl; past_end = refl }
