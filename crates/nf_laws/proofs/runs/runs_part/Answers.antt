use Rattle.nf_laws.proofs.runs.runs_part.Goals as goal
use Rattle.nf_laws.proofs.Parted.{runs_part, answer_each}

pub returns-clause-parts : goal.returns-clause-parts
returns-clause-parts c = runs_part

pub returns-clause-answers : goal.returns-clause-answers
returns-clause-answers c = answer_each
