use Rattle.nf_laws.proofs.quiet.quiet_answers_steps.Goals as goal
use Rattle.nf_laws.proofs.Quieted.{quiet_answers}

pub returns : goal.returns
returns c = quiet_answers
