use Rattle.std.proofs.Common.{refl}
use Rattle.std.proofs.lemmas.Result.{on_ok_weaker}
use Rattle.shard_core.proofs.Reserving.{many_sharded, all_room}
use Rattle.shard_core.proofs.shards.Shards.reserve_all.Goals as goal

pub invariant_of-self : goal.invariant_of-self
invariant_of-self c =
    let i = c.self.inside in
    many_sharded i.func i.keys i.count i.workers c.reserve_each.new.workers i.queues.items i.queues.items i.table c.reserve_each.ensures.same refl c.self.invariant

pub invariant_of-self-2 : goal.invariant_of-self-2
invariant_of-self-2 c =
    let i = c.self.inside in
    many_sharded i.func i.keys i.count i.workers c.reserve_each.new.workers i.queues.items c.reserve.new.self.items i.table c.reserve_each.ensures.same c.reserve.ensures.items c.self.invariant

pub returns-clause-room : goal.returns-clause-room
returns-clause-room c =
    let i = c.self.inside in
    on_ok_weaker c.reserve.result (λ le. all_room c.args.n i.func i.keys i.count c.reserve_each.new.workers c.reserve.new.self i.time le c.in_ok-reserve_each.ensures.room) c.reserve.ensures.room
