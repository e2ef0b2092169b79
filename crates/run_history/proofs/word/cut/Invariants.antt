-- the separator stands nowhere so far
use Rattle.std.proofs.Common.{take}
use Rattle.run_history.specs.Reading.{IsFree}
use Rattle.run_history.proofs.word.cut.Given as goal

abbrev pub invariant-loop-i : goal.invariant-loop-i
invariant-loop-i l = IsFree l.separator (take l.i l.bytes)
