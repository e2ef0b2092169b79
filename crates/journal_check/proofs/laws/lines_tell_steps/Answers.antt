use Rattle.journal_check.proofs.Judged.{lines_tell}
use Rattle.journal_check.proofs.laws.lines_tell_steps.Goals as goal

pub returns : goal.returns
returns c = lines_tell
