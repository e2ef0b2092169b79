use Rattle.nf_laws.proofs.locations.entries_are_apart.Goals as goal
use Rattle.nf_laws.proofs.Apart.{entries_apart}

pub returns : goal.returns
returns c = entries_apart
