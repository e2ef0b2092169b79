use Rattle.nf_laws.proofs.lookups.searches_find_the_first.Goals as goal
use Rattle.nf_laws.proofs.Found.{finds_first}

pub returns : goal.returns
returns c = finds_first
