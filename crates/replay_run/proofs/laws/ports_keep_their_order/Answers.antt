use Rattle.replay_run.proofs.Orders.{first_are, others_first, none_passed}
use Rattle.replay_run.proofs.laws.ports_keep_their_order.Goals as goal

pub returns-clause-first : goal.returns-clause-first
returns-clause-first c = first_are

pub returns-clause-others : goal.returns-clause-others
returns-clause-others c = others_first

pub returns-clause-never : goal.returns-clause-never
returns-clause-never c = none_passed
