use Rattle.nf_laws.proofs.shares.shares_go_alike.Goals as goal
use Rattle.nf_laws.proofs.AlikeTold.{shares_alike, steps_alike}

pub returns-clause-courses : goal.returns-clause-courses
returns-clause-courses c = shares_alike

pub returns-clause-steps : goal.returns-clause-steps
returns-clause-steps c = steps_alike
