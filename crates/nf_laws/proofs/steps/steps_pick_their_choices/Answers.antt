use Rattle.nf_laws.proofs.steps.steps_pick_their_choices.Goals as goal
use Rattle.nf_laws.proofs.Picked.{steps_pick, one_step}

pub returns-clause-picks : goal.returns-clause-picks
returns-clause-picks c = steps_pick

pub returns-clause-once : goal.returns-clause-once
returns-clause-once c = one_step
