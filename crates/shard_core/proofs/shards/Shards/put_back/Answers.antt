use Rattle.std.proofs.Common.{List, sym, subst}
use Rattle.shard_core.specs.Held.{Held}
use Rattle.shard_core.specs.Sharded.{Sharded, IsSharded, AreWorkersOf}
use Rattle.shard_core.proofs.Apart.{back_sharded}
use Rattle.shard_core.proofs.shards.Shards.put_back.Goals as goal

pub invariant_of-self : goal.invariant_of-self
invariant_of-self c =
    let i = c.self.inside in
    let of = subst (λ (v : Sharded). AreWorkersOf v c.args.workers.items) (sym c.self.view_is) c.requires in
    subst (λ (ws : List Held). IsSharded i.func i.keys i.count ws i.queues.items i.table) (sym c.from_vec.ensures) (back_sharded i.func i.keys i.count i.workers c.args.workers.items i.queues.items i.table c.self.invariant of.each)
