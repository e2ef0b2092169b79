use Rattle.std.proofs.Common.{sym, subst}
use Rattle.shard_core.specs.Sharded.{Sharded, IsWhole, ComesFirst, StopIn}
use Rattle.shard_core.proofs.Taking.{there, of_first, stop_in}
use Rattle.shard_core.proofs.shards.Shards.stop_next.Goals as goal

pub returns-in-Some : goal.returns-in-Some
returns-in-Some c =
    let i = c.self.inside in
    let first : ComesFirst c.in-Some.queue.now i.queues.items = of_first i.queues.items c.in-Some.queue c.in-Some.ensures in
    let whole = subst (λ (v : Sharded). IsWhole v) (sym c.self.view_is) c.requires in
    let at = there i.func i.keys i.count i.workers i.queues.items i.table c.in-Some.queue.now c.item.result.now whole c.self.invariant first c.item.ensures in
    subst (λ (v : Sharded). StopIn v.queues.items v.workers c.stop.result) c.self.view_is
    (stop_in c.in-Some.queue.now i.queues.items i.workers c.item.result.now c.stop.result first at c.stop.ensures.some c.stop.ensures.none)
