use Rattle.nf_laws.proofs.operations.sets_edit.Goals as goal
use Rattle.nf_laws.proofs.Edited.{sets_edit}

pub returns : goal.returns
returns c = sets_edit
