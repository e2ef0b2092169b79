use Rattle.path_walk.proofs.laws.packets_take_feasible_paths.Goals as goal
use Rattle.path_walk.proofs.Taken.{packets_feasible, outcomes_listed}

pub returns-clause-paths : goal.returns-clause-paths
returns-clause-paths c = packets_feasible

pub returns-clause-outcomes : goal.returns-clause-outcomes
returns-clause-outcomes c = outcomes_listed
