use Rattle.nf_laws.proofs.lookups.finds_hit_entries.Goals as goal
use Rattle.nf_laws.proofs.Asked.{finds_hit}

pub returns : goal.returns
returns c = finds_hit
