use Rattle.nf_laws.proofs.orders.packets_come_in_order.Goals as goal
use Rattle.nf_laws.proofs.Ordered.{in_order}

pub returns : goal.returns
returns c = in_order
