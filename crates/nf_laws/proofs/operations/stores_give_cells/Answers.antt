use Rattle.nf_laws.proofs.operations.stores_give_cells.Goals as goal
use Rattle.nf_laws.proofs.Edited.{stores_give}

pub returns : goal.returns
returns c = stores_give
