use Rattle.nf_laws.proofs.courses.courses_are_told.Goals as goal
use Rattle.nf_laws.proofs.Coming.{courses_of_text, nothing_else}
use Rattle.nf_laws.proofs.Reached.{each_told}

pub returns-clause-text : goal.returns-clause-text
returns-clause-text c = courses_of_text

pub returns-clause-each : goal.returns-clause-each
returns-clause-each c = each_told

pub returns-clause-only : goal.returns-clause-only
returns-clause-only c = nothing_else
