use Rattle.nf_laws.proofs.steps.skipped_is_nothing.Goals as goal
use Rattle.nf_laws.proofs.Picked.{skipped_nothing}

pub returns : goal.returns
returns c = skipped_nothing
