use Rattle.replay_run.proofs.Accepted.{right_accepted}
use Rattle.replay_run.proofs.laws.right_is_accepted.Goals as goal

pub returns : goal.returns
returns c = right_accepted
