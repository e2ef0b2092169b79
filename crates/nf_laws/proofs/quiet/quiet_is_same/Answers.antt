use Rattle.nf_laws.proofs.quiet.quiet_is_same.Goals as goal
use Rattle.nf_laws.proofs.Quieted.{quiet_same, quiet_numbers}

pub returns-clause-state : goal.returns-clause-state
returns-clause-state c = quiet_same

pub returns-clause-numbers : goal.returns-clause-numbers
returns-clause-numbers c = quiet_numbers
