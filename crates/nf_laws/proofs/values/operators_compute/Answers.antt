use Rattle.nf_laws.proofs.values.operators_compute.Goals as goal
use Rattle.nf_laws.proofs.Valued.{operators_compute, values_stay}

pub returns-clause-results : goal.returns-clause-results
returns-clause-results c = operators_compute

pub returns-clause-bounds : goal.returns-clause-bounds
returns-clause-bounds c = values_stay
