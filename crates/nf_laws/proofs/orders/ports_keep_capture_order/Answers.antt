use Rattle.nf_laws.proofs.orders.ports_keep_capture_order.Goals as goal
use Rattle.nf_laws.proofs.Ordered.{none_lost, ports_rise}

pub returns-clause-lost : goal.returns-clause-lost
returns-clause-lost c = none_lost

pub returns-clause-rise : goal.returns-clause-rise
returns-clause-rise c = ports_rise
