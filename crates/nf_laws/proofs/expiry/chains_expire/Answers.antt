use Rattle.nf_laws.proofs.expiry.chains_expire.Goals as goal
use Rattle.nf_laws.proofs.Expiring.{chains_expire, no_chain_lost}

pub returns-clause-each : goal.returns-clause-each
returns-clause-each c = chains_expire

pub returns-clause-lost : goal.returns-clause-lost
returns-clause-lost c = no_chain_lost
