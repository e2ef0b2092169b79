use Rattle.nf_laws.proofs.lookups.gets_hit_keys.Goals as goal
use Rattle.nf_laws.proofs.Asked.{gets_hit}

pub returns : goal.returns
returns c = gets_hit
