use Rattle.ring_line.proofs.laws.handling_is_work.Goals as goal
use Rattle.ring_line.proofs.Handling.{handling_is_work}

pub returns : goal.returns
returns c = handling_is_work
