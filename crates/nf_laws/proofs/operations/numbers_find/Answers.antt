use Rattle.nf_laws.proofs.operations.numbers_find.Goals as goal
use Rattle.nf_laws.proofs.Edited.{declarations_found, chains_found, arrays_found}

pub returns-clause-declared : goal.returns-clause-declared
returns-clause-declared c = declarations_found

pub returns-clause-chains : goal.returns-clause-chains
returns-clause-chains c = chains_found

pub returns-clause-arrays : goal.returns-clause-arrays
returns-clause-arrays c = arrays_found
