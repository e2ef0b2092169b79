use Rattle.std.proofs.Common.{refl}
use Rattle.nf_laws.proofs.rows.only_one_flow_meets.Goals as goal
use Rattle.nf_laws.proofs.Flows.{one_meets, other_does_not}

pub returns : goal.returns
returns c = record { touched = refl; one = one_meets; other = other_does_not }
