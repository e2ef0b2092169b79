use Rattle.nf_laws.proofs.states.states_are_sound.Goals as goal
use Rattle.nf_laws.proofs.Sound.{opening_sound, step_sound}

pub returns-clause-opening : goal.returns-clause-opening
returns-clause-opening c = opening_sound

pub returns-clause-step : goal.returns-clause-step
returns-clause-step c = step_sound
