use Rattle.nf_laws.proofs.lookups.keys_have_their_parts.Goals as goal
use Rattle.nf_laws.proofs.Keyed.{keys_have_parts}

pub returns : goal.returns
returns c = keys_have_parts
