use Rattle.std.proofs.Common.{refl}
use Rattle.nf_laws.proofs.rows.a_packet_takes_a_path.Goals as goal

pub returns : goal.returns
returns c = record { all = refl; nested = refl; taken = refl; known = refl; new_ = refl }
