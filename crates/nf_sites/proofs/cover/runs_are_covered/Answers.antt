use Rattle.nf_sites.proofs.cover.runs_are_covered.Goals as goal
use Rattle.nf_sites.proofs.Runs.{runs_covered}

pub returns : goal.returns
returns c = runs_covered
