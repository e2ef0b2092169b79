use Rattle.nf_base.specs.Functions.{function_of}
use Rattle.shard_core.specs.Held as one
use Rattle.shard_core.proofs.Standing.{works_on}
use Rattle.shard_core.proofs.worker.Worker.work.Goals as goal

pub returns-clause-stands : goal.returns-clause-stands
returns-clause-stands c = λ worker taken h. works_on (function_of c.args.func.now) c.work_once.result c.args.self.now c.work_once.new.self worker taken h c.work_once.ensures.works

pub returns-clause-times : goal.returns-clause-times
returns-clause-times c = λ n first times.
    one.goes_on n c.work_once.result c.args.self.now c.work_once.new.self times
    (record { works = c.work_once.ensures.works; fixed = c.work_once.ensures.fixed; room = c.work_once.ensures.room })
