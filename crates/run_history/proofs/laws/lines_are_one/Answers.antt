use Rattle.run_history.proofs.Unique.{lines_one}
use Rattle.run_history.proofs.laws.lines_are_one.Goals as goal

pub returns : goal.returns
returns c = lines_one
