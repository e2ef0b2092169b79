use Rattle.std.proofs.Common.{refl}
use Rattle.nf_laws.proofs.rows.the_sixth_host_is_dropped.Goals as goal

pub returns : goal.returns
returns c = record { actions = refl; state = refl }
