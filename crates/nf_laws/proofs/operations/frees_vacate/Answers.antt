use Rattle.nf_laws.proofs.operations.frees_vacate.Goals as goal
use Rattle.nf_laws.proofs.Effected.{frees_vacate, freed_do_nothing}

pub returns-clause-frees : goal.returns-clause-frees
returns-clause-frees c = frees_vacate

pub returns-clause-freed : goal.returns-clause-freed
returns-clause-freed c = freed_do_nothing
