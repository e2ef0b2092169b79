use Rattle.replay_run.proofs.Accepted.{first_is_found}
use Rattle.replay_run.proofs.laws.first_is_found.Goals as goal

pub returns : goal.returns
returns c = first_is_found
