use Rattle.nf_laws.proofs.states.states_have_their_shape.Goals as goal
use Rattle.nf_laws.proofs.Shaped.{opening_shape, step_shape}

pub returns-clause-opening : goal.returns-clause-opening
returns-clause-opening c = opening_shape

pub returns-clause-step : goal.returns-clause-step
returns-clause-step c = step_shape
