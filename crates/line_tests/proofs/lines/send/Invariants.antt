use Rattle.std.proofs.Common.{◌≡◌, length}
use Rattle.line_tests.proofs.lines.send.Given as goal

-- as many queues as before
abbrev pub invariant-loop : goal.invariant-loop
invariant-loop g l = length l.line.queue_workers ≡ length l.fn.line.queue_workers
