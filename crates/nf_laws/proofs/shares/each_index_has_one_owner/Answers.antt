use Rattle.nf_laws.proofs.shares.each_index_has_one_owner.Goals as goal
use Rattle.nf_laws.proofs.Owned.{an_owner, not_two}

pub returns-clause-each : goal.returns-clause-each
returns-clause-each c = an_owner

pub returns-clause-once : goal.returns-clause-once
returns-clause-once c = not_two
