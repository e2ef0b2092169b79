use Rattle.stream_run.proofs.Going.{go_on}
use Rattle.stream_run.proofs.laws.legal_runs_go_on.Goals as goal

pub returns : goal.returns
returns c = go_on
