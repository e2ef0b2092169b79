use Rattle.std.proofs.Common.{refl}
use Rattle.nf_laws.proofs.rows.a_flow_is_let_back.Goals as goal

pub returns : goal.returns
returns c = record { actions = refl; state = refl }
