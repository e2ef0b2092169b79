use Rattle.nf_laws.proofs.locations.entries_are_numbered.Goals as goal
use Rattle.nf_laws.proofs.Numbered.{counted, next, kept, greater}

pub returns-clause-counted : goal.returns-clause-counted
returns-clause-counted c = counted

pub returns-clause-next : goal.returns-clause-next
returns-clause-next c = next

pub returns-clause-kept : goal.returns-clause-kept
returns-clause-kept c = kept

pub returns-clause-greater : goal.returns-clause-greater
returns-clause-greater c = greater
