use Rattle.sharded_run.proofs.Owned.{shares_full}
use Rattle.sharded_run.proofs.laws.shares_are_full.Goals as goal

pub returns : goal.returns
returns c = shares_full
