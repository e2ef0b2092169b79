use Rattle.std.proofs.Common.{refl}
use Rattle.nf_laws.proofs.rows.an_entry_outlives_its_last_tick.Goals as goal

pub returns : goal.returns
returns c = record { stands = refl; gone = refl; again = refl }
