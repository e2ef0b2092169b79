use Rattle.nf_laws.proofs.expiry.steps_expire_first.Goals as goal
use Rattle.nf_laws.proofs.Expiring.{expire_first}

pub returns : goal.returns
returns c = expire_first
