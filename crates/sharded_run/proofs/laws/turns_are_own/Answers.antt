use Rattle.sharded_run.proofs.Owned.{turns_own}
use Rattle.sharded_run.proofs.laws.turns_are_own.Goals as goal

pub returns : goal.returns
returns c = turns_own
