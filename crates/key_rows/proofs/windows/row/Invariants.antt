use Rattle.key_rows.proofs.Rowed.{IsRowBelow}
use Rattle.key_rows.proofs.windows.row.Given as goal

abbrev pub invariant-loop-n : goal.invariant-loop-n
invariant-loop-n l = IsRowBelow l.windows l.k l.u l.n l.bits.items
