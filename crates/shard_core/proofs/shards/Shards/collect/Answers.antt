use Rattle.shard_core.proofs.Machines.{collects_on}
use Rattle.shard_core.proofs.Played.{taken_size}
use Rattle.shard_core.proofs.shards.Shards.collect.Goals as goal

pub returns-clause-stands : goal.returns-clause-stands
returns-clause-stands c = λ x m h. collects_on x m c.take_next.result c.args.self.now c.take_next.new.self h c.take_next.ensures.takes

pub returns-clause-size : goal.returns-clause-size
returns-clause-size c = taken_size c.take_next.result c.args.self.now c.take_next.new.self c.take_next.ensures.takes
