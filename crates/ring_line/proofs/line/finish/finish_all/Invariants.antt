use Rattle.std.proofs.Common.{◌≡◌, ◌+◌, ◌++◌, List, length}
use Rattle.std.specs.Vec.{vec_capacity}
use Rattle.ring_line.specs.Lines.{AreFinished}
use Rattle.ring_line.proofs.line.finish.finish_all.Given as goal

-- the first workers are at their end
abbrev pub invariant-loop-w : goal.invariant-loop-w
invariant-loop-w g l = record {
  moved : (done : List _) × (l.fn.queue_workers ≡ done ++ l.queue_workers) × AreFinished done l.parts.items;
  left : length l.queue_workers + l.w ≡ length l.fn.queue_workers;
  long : length l.parts.items ≡ l.w;
  room : vec_capacity l.parts ≡ vec_capacity l.fn.parts;
}
