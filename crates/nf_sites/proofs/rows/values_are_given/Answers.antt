use Rattle.nf_sites.proofs.rows.values_are_given.Goals as goal
use Rattle.nf_sites.proofs.TouchedRows.{values_given}

pub returns : goal.returns
returns c = values_given
