use Rattle.shard_core.proofs.Machines.{same_rooms}
use Rattle.shard_core.proofs.Played.{rooms_size}
use Rattle.shard_core.proofs.shards.Shards.reserve.Goals as goal

pub returns-clause-stands : goal.returns-clause-stands
returns-clause-stands c = λ x m h. same_rooms x m c.args.self.now c.reserve_all.new.self c.reserve_all.ensures.same h

pub returns-clause-size : goal.returns-clause-size
returns-clause-size c = rooms_size c.args.self.now c.reserve_all.new.self c.reserve_all.ensures.same
