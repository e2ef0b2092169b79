use Rattle.nf_laws.proofs.shares.owners_see_their_own.Goals as goal
use Rattle.nf_laws.proofs.Owned.{see_entries, see_cells}

pub returns-clause-entries : goal.returns-clause-entries
returns-clause-entries c = see_entries

pub returns-clause-cells : goal.returns-clause-cells
returns-clause-cells c = see_cells
