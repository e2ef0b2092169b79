use Rattle.std.proofs.Common.{refl}
use Rattle.nf_laws.proofs.rows.a_freed_index_is_vacant.Goals as goal

pub returns : goal.returns
returns c = record { actions = refl; state = refl; touched = refl }
