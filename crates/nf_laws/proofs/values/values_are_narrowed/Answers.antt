use Rattle.nf_laws.proofs.values.values_are_narrowed.Goals as goal
use Rattle.nf_laws.proofs.Valued.{values_narrowed}

pub returns : goal.returns
returns c = values_narrowed
