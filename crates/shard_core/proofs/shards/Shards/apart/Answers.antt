use Rattle.std.proofs.Common.{List, sym, ◌∙◌, subst}
use Rattle.shard_core.specs.Held.{Held}
use Rattle.shard_core.specs.Sharded.{IsSharded}
use Rattle.shard_core.proofs.Apart.{apart_sharded}
use Rattle.shard_core.proofs.shards.Shards.apart.Goals as goal

pub invariant_of-self : goal.invariant_of-self
invariant_of-self c =
    let i = c.self.inside in
    subst (λ (ws : List Held). IsSharded i.func i.keys i.count ws i.queues.items i.table) (sym (c.replace.ensures.after ∙ c.new.ensures)) (apart_sharded i.func i.keys i.count i.workers i.queues.items i.table c.self.invariant)
