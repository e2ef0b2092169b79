use Rattle.ring_line.specs.WorkerLoops.{begun}
use Rattle.ring_line.proofs.Telling.{begins_work}
use Rattle.ring_line.proofs.worker_loop.WorkerLoop.run.Goals as goal

pub returns-in-Ok : goal.returns-in-Ok
returns-in-Ok g c = c.work.ensures (begun c.args.self.ends c.args.self.queue_handler) (begins_work c.args.self.ends c.args.self.queue_handler c.requires.received c.requires.sent c.requires.running)

pub returns-in-Err : goal.returns-in-Err
returns-in-Err g c = c.work-in-Err.ensures (begun c.args.self.ends c.args.self.queue_handler) (begins_work c.args.self.ends c.args.self.queue_handler c.requires.received c.requires.sent c.requires.running)
