use Rattle.std.proofs.Common.{refl}
use Rattle.nf_laws.proofs.rows.only_vacant_indices_are_choices.Goals as goal

pub returns : goal.returns
returns c = record { live = refl; past_end = refl; missing = refl; left_over = refl; for_a_hit = refl }
