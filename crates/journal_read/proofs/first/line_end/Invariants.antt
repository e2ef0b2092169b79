-- no LF stands so far
use Rattle.std.proofs.Common.{take}
use Rattle.run_history.specs.Reading.{IsFree}
use Rattle.journal_read.proofs.first.line_end.Given as goal

abbrev pub invariant-loop-i : goal.invariant-loop-i
invariant-loop-i l = IsFree 10 (take l.i l.bytes)
