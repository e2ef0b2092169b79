use Rattle.nf_laws.proofs.lookups.tests_compare.Goals as goal
use Rattle.nf_laws.proofs.Asked.{tests_compare}

pub returns : goal.returns
returns c = tests_compare
