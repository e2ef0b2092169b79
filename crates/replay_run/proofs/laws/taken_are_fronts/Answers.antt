use Rattle.replay_run.proofs.Left.{taken_fronts, runs_fronts}
use Rattle.replay_run.proofs.laws.taken_are_fronts.Goals as goal

pub returns-clause-taken : goal.returns-clause-taken
returns-clause-taken c = taken_fronts

pub returns-clause-runs : goal.returns-clause-runs
returns-clause-runs c = runs_fronts
