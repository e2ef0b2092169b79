use Rattle.nf_sites.proofs.rows.hashes_are_admissible.Goals as goal
use Rattle.nf_sites.proofs.HashedRows.{hashes_admissible}

pub returns : goal.returns
returns c = hashes_admissible
