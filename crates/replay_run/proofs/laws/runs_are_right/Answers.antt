use Rattle.replay_run.proofs.Left.{runs_right, fronts_right}
use Rattle.replay_run.proofs.laws.runs_are_right.Goals as goal

pub returns-clause-runs : goal.returns-clause-runs
returns-clause-runs c = runs_right

pub returns-clause-fronts : goal.returns-clause-fronts
returns-clause-fronts c = fronts_right
