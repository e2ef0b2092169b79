use Rattle.shard_core.proofs.Machines.{stop_on}
use Rattle.shard_core.proofs.shards.Shards.stop.Goals as goal

pub returns-clause-stands : goal.returns-clause-stands
returns-clause-stands c = λ x m h. stop_on x m c.args.self.now c.stop_next.result h c.stop_next.ensures
