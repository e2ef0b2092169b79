use Rattle.path_walk.proofs.Apart.{listed_once}
use Rattle.path_walk.proofs.laws.paths_branch_apart.Goals as goal

pub returns : goal.returns
returns c = listed_once
