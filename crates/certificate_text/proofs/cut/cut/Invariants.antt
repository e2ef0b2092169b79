-- the separator stands nowhere so far
use Rattle.std.proofs.Common.{take}
use Rattle.certificate_text.specs.Pieces.{IsFree}
use Rattle.certificate_text.proofs.cut.cut.Given as goal

abbrev pub invariant-loop-i : goal.invariant-loop-i
invariant-loop-i l = IsFree l.separator (take l.i l.bytes)
