use Rattle.shard_core.proofs.Machines.{works_at}
use Rattle.shard_core.proofs.Played.{worked_size}
use Rattle.shard_core.proofs.shards.Shards.work.Goals as goal

pub returns-clause-stands : goal.returns-clause-stands
returns-clause-stands c = λ x m h. works_at x m c.args.w c.work_at.result c.args.self.now c.work_at.new.self h c.work_at.ensures.works

pub returns-clause-size : goal.returns-clause-size
returns-clause-size c = worked_size c.args.w c.work_at.result c.args.self.now c.work_at.new.self c.work_at.ensures.works
