use Rattle.nf_laws.proofs.paths.outcomes_are_along_paths.Goals as goal
use Rattle.nf_laws.proofs.Walked.{outcomes_walk}

pub returns : goal.returns
returns c = outcomes_walk
