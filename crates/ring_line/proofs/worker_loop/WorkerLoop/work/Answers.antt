use Rattle.std.proofs.Common.{Bool, subst}
use Rattle.ring_line.specs.WorkerLoops.{AtItem}
use Rattle.ring_line.proofs.worker_loop.WorkerLoop.work.Goals as goal

pub loop-preserved : goal.loop-preserved
loop-preserved g c = record {
  runner = c.step.ensures.runner;
  works = λ given at. subst (λ (b : Bool). AtItem b given c.step.new.self.ends c.step.new.self.queue_handler) c.if-not-step.false (c.step.ensures.came given (c.loop.invariant.works given at));
}

pub returns-then-not-step : goal.returns-then-not-step
returns-then-not-step g c = λ given at. c.close.ensures given (subst (λ (b : Bool). AtItem b given c.step.new.self.ends c.step.new.self.queue_handler) c.if-not-step.true (c.step.ensures.came given (c.loop.invariant.works given at)))
