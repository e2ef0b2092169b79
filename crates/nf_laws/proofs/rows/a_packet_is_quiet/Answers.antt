use Rattle.std.proofs.Common.{refl}
use Rattle.nf_laws.proofs.rows.a_packet_is_quiet.Goals as goal

pub returns : goal.returns
returns c = record { at_once = refl; earlier = refl; later = refl; expired = refl; no_step = refl }
