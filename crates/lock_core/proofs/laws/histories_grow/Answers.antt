use Rattle.lock_core.proofs.laws.histories_grow.Goals as goal
use Rattle.lock_core.proofs.Playing.{histories_grow}

pub returns : goal.returns
returns c = histories_grow
