use Rattle.std.proofs.Common.{refl}
use Rattle.nf_laws.proofs.rows.a_stranger_is_dropped.Goals as goal

pub returns : goal.returns
returns c = refl
