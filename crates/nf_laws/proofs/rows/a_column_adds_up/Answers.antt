use Rattle.std.proofs.Common.{refl}
use Rattle.nf_laws.proofs.rows.a_column_adds_up.Goals as goal

pub returns : goal.returns
returns c = refl
