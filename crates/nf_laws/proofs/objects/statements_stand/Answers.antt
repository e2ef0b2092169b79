use Rattle.nf_laws.proofs.objects.statements_stand.Goals as goal
use Rattle.nf_laws.proofs.Within.{statements_stand}
use Rattle.nf_laws.proofs.Counted.{statements_counted}

pub returns-clause-stand : goal.returns-clause-stand
returns-clause-stand c = statements_stand

pub returns-clause-counted : goal.returns-clause-counted
returns-clause-counted c = statements_counted
