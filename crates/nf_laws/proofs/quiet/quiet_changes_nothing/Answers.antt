use Rattle.nf_laws.proofs.quiet.quiet_changes_nothing.Goals as goal
use Rattle.nf_laws.proofs.Quieted.{quiet_changes}

pub returns : goal.returns
returns c = quiet_changes
