-- The calls of a seat may go to another thread, and threads may share an order of them: of a packet
-- nothing is kept.
use denote.Param.Send.{IsSend, IsSync, sendable, view_send, view_sync}
use denote.Param.SendFields.{as_row_send, as_row_sync, declared_send, declared_sync}
use Rattle.std.proofs.Crossing.{crosses}
use Rattle.nf_base.proofs.done.Done.TheSendSync as done_law
use Rattle.lock_log.specs.contracts.log.Noted as noted
use Rattle.lock_log.specs.contracts.log.Noted.TheInside as noted_inside
use Rattle.lock_log.specs.contracts.log.CallLog as log
use Rattle.lock_log.specs.contracts.log.CallLog.TheInside as log_inside
use Rattle.lock_log.specs.contracts.order.Order as order
use Rattle.lock_log.specs.contracts.order.Order.TheInside as order_inside

noted_send : IsSend noted.the_row
noted_send = view_send _ _ _ _ _ (declared_send noted_inside.the_type (
  search (sendable, crosses, as_row_send) depth 40,
  (
    search (sendable, as_row_send) depth 40,
    (search (sendable, as_row_send) depth 40, (search (sendable, as_row_send) depth 40, tt)),
  ),
))

noted_sync : IsSync noted.the_row
noted_sync = view_sync _ _ _ _ _ (declared_sync noted_inside.the_type (
  search (sendable, crosses, as_row_sync) depth 40,
  (
    search (sendable, as_row_sync) depth 40,
    (search (sendable, as_row_sync) depth 40, (search (sendable, as_row_sync) depth 40, tt)),
  ),
))

pub log_send : IsSend log.the_row
log_send = view_send _ _ _ _ _ (declared_send log_inside.the_type (
  search (sendable, crosses, as_row_send, noted_send) depth 40,
  (search (sendable, crosses, as_row_send, done_law.the_send) depth 40, tt),
))

pub log_sync : IsSync log.the_row
log_sync = view_sync _ _ _ _ _ (declared_sync log_inside.the_type (
  search (sendable, crosses, as_row_sync, noted_sync) depth 40,
  (search (sendable, crosses, as_row_sync, done_law.the_sync) depth 40, tt),
))

pub order_sync : IsSync order.the_row
order_sync = view_sync _ _ _ _ _ (declared_sync order_inside.the_type (
  search (sendable, crosses, as_row_sync, log_sync) depth 40,
  (search (sendable, crosses, as_row_sync) depth 40, tt),
))
