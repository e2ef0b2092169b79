use Rattle.nf_sites.proofs.rows.entries_are_found_first.Goals as goal
use Rattle.nf_sites.proofs.TouchedRows.{found_first}

pub returns : goal.returns
returns c = found_first
