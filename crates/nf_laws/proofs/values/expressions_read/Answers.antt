use Rattle.nf_laws.proofs.values.expressions_read.Goals as goal
use Rattle.nf_laws.proofs.ReadValues.{variables_read, freed_read_nothing, cells_read, expressions_read}

pub returns-clause-variables : goal.returns-clause-variables
returns-clause-variables c = variables_read

pub returns-clause-freed : goal.returns-clause-freed
returns-clause-freed c = freed_read_nothing

pub returns-clause-cells : goal.returns-clause-cells
returns-clause-cells c = cells_read

pub returns-clause-rest : goal.returns-clause-rest
returns-clause-rest c = expressions_read
