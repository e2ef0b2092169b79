-- Threads may share an order of packets.
use denote.Param.Send.{IsSync}
use Rattle.lock_log.specs.contracts.order.Order as order
use Rattle.lock_log.proofs.Crossing.{order_sync}

pub order_shared : IsSync order.the_row
order_shared = order_sync
