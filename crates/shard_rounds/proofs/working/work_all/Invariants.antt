use Rattle.std.proofs.Common.{◌≡◌, ◌+◌, ℕ, length}
use Rattle.nf_base.specs.Functions.{function_of}
use Rattle.shard_core.specs.Held.{WorkedTimes}
use Rattle.shard_rounds.specs.Workings.{CanWork}
use Rattle.shard_rounds.proofs.working.work_all.Given as goal

-- it was called as often as packets are gone
abbrev pub invariant-loop-packet : goal.invariant-loop-packet
invariant-loop-packet g l = record {
  calls : ℕ;
  long : calls + length l.worker.waiting ≡ length l.fn.worker.waiting;
  times : WorkedTimes (function_of l.func) l.fn.worker calls l.worker;
  can : CanWork l.func l.worker;
}

abbrev pub decreases-loop-packet : goal.decreases-loop-packet
decreases-loop-packet g l = length l.worker.waiting
