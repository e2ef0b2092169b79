use Rattle.path_walk.proofs.laws.feasible_paths_go_one_way.Goals as goal
use Rattle.path_walk.proofs.Agreeing.{feasible_is, is_feasible_where}

pub returns-clause-one_way : goal.returns-clause-one_way
returns-clause-one_way c = feasible_is

pub returns-clause-exactly : goal.returns-clause-exactly
returns-clause-exactly c = is_feasible_where
