use Rattle.nf_laws.proofs.operations.blocks_end_so.Goals as goal
use Rattle.nf_laws.proofs.Edited.{blocks_end, falling_off}

pub returns-clause-ends : goal.returns-clause-ends
returns-clause-ends c = blocks_end

pub returns-clause-drops : goal.returns-clause-drops
returns-clause-drops c = falling_off
