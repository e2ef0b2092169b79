use Rattle.nf_laws.proofs.steps.some_choices_are_legal.Goals as goal
use Rattle.nf_laws.proofs.Chosen.{some_choices}

pub returns : goal.returns
returns c = some_choices
