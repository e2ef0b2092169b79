use Rattle.run_history.proofs.Unique.{lines_end}
use Rattle.run_history.proofs.laws.lines_end_by_lf.Goals as goal

pub returns : goal.returns
returns c = lines_end
