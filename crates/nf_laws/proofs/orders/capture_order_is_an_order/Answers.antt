use Rattle.nf_laws.proofs.orders.capture_order_is_an_order.Goals as goal
use Rattle.nf_laws.proofs.Ordered.{none_late, each_ordered}

pub returns-clause-late : goal.returns-clause-late
returns-clause-late c = none_late

pub returns-clause-each : goal.returns-clause-each
returns-clause-each c = each_ordered
