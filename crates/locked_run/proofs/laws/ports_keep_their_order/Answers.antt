use Rattle.locked_run.proofs.Once.{others_between, none_before}
use Rattle.locked_run.proofs.laws.ports_keep_their_order.Goals as goal

pub returns-clause-between : goal.returns-clause-between
returns-clause-between c = others_between

pub returns-clause-never : goal.returns-clause-never
returns-clause-never c = none_before
