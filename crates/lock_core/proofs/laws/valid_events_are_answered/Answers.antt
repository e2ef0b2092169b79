use Rattle.lock_core.proofs.laws.valid_events_are_answered.Goals as goal
use Rattle.lock_core.proofs.Playing.{answers}

pub returns : goal.returns
returns c = answers
