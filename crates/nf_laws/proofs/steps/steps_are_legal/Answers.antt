use Rattle.nf_laws.proofs.steps.steps_are_legal.Goals as goal
use Rattle.nf_laws.proofs.Legal.{steps_legal, legal_steps, other_ports}

pub returns-clause-legal : goal.returns-clause-legal
returns-clause-legal c = steps_legal

pub returns-clause-steps : goal.returns-clause-steps
returns-clause-steps c = legal_steps

pub returns-clause-other : goal.returns-clause-other
returns-clause-other c = other_ports
