use Rattle.nf_laws.proofs.values.comparisons_compare.Goals as goal
use Rattle.nf_laws.proofs.Valued.{comparisons_compare}

pub returns : goal.returns
returns c = comparisons_compare
