use Rattle.std.proofs.Common.{◌≡◌, ◌≤◌, length}
use Rattle.std.specs.Vec.{vec_capacity}
use Rattle.nf_base.specs.Functions.{function_of}
use Rattle.ring_line.specs.QueueWorkers.{all_in_flight}
use Rattle.ring_line.specs.Openings.{AreOpenedFrom}
use Rattle.ring_line.specs.Lines.{AreStarted}
use Rattle.ring_line.proofs.line.start.start_all.Given as goal

-- so many were started
abbrev pub invariant-loop-queue : goal.invariant-loop-queue
invariant-loop-queue g l = record {
  started : AreStarted (function_of l.func) l.fn.workers l.queue_workers.items;
  long : length l.queue_workers.items ≡ l.queue;
  room : 16 ≤ vec_capacity l.queue_workers;
  opened : AreOpenedFrom (function_of l.func) l.fn.workers l.queue l.opened;
  none : all_in_flight l.queue_workers.items ≡ 0;
}
