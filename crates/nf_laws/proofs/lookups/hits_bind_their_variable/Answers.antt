use Rattle.nf_laws.proofs.lookups.hits_bind_their_variable.Goals as goal
use Rattle.nf_laws.proofs.Asked.{hits_bind}

pub returns : goal.returns
returns c = hits_bind
