use Rattle.std.proofs.Common.{◌<◌, ◌≤◌, subst}
use Rattle.shard_core.specs.Sharded.{Sharded}
use Rattle.shard_core.proofs.Setups.{setups_exist}
use Rattle.shard_core.proofs.shards.Shards.worker_count.Goals as goal

pub returns-clause-setup : goal.returns-clause-setup
returns-clause-setup c =
    setups_exist c.args.self.now
    (subst (λ (v : Sharded). 0 < v.count) c.self.view_is c.self.invariant.some)
    (subst (λ (v : Sharded). v.count ≤ 16) c.self.view_is c.self.invariant.most)
