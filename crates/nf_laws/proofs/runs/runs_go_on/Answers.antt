use Rattle.nf_laws.proofs.runs.runs_go_on.Goals as goal
use Rattle.nf_laws.proofs.Parted.{runs_go_on}

pub returns : goal.returns
returns c = runs_go_on
