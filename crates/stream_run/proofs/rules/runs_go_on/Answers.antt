use Rattle.stream_run.proofs.Ruled.{goes_on, handled_fronts}
use Rattle.stream_run.proofs.rules.runs_go_on.Goals as goal

pub returns-clause-one : goal.returns-clause-one
returns-clause-one c = goes_on

pub returns-clause-less : goal.returns-clause-less
returns-clause-less c = handled_fronts
