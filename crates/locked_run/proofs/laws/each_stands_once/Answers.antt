use Rattle.locked_run.proofs.Once.{stands_once}
use Rattle.locked_run.proofs.laws.each_stands_once.Goals as goal

pub returns : goal.returns
returns c = stands_once
