use Rattle.ring_line.specs.FunctionRunners.{IsFunctionRunnerOf}
use Rattle.ring_line.specs.WorkerLoops.{Given, AtWork}
use Rattle.ring_line.proofs.worker_loop.WorkerLoop.work.Given as goal

-- it is still at work, by the same function
abbrev pub invariant-loop : goal.invariant-loop
invariant-loop g l = record {
  runner : IsFunctionRunnerOf l.runner l.worker_loop.queue_handler.func;
  works : (given : Given) → AtWork given l.fn.self.ends l.fn.self.queue_handler → AtWork given l.worker_loop.ends l.worker_loop.queue_handler;
}
