use Rattle.stream_run.proofs.Ruled.{nothing_is, handled_runs, fronts_fronts}
use Rattle.stream_run.proofs.rules.handled_are_runs.Goals as goal

pub returns-clause-nothing : goal.returns-clause-nothing
returns-clause-nothing c = nothing_is

pub returns-clause-runs : goal.returns-clause-runs
returns-clause-runs c = handled_runs

pub returns-clause-fronts : goal.returns-clause-fronts
returns-clause-fronts c = fronts_fronts
