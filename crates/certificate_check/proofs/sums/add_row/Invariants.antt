use Rattle.std.proofs.Common.{take, length, ◌≡◌}
use Rattle.certificate_laws.specs.Terms.{row_at}
use Rattle.certificate_check.specs.Adding.{IsAdded}
use Rattle.certificate_check.proofs.sums.add_row.Given as goal

abbrev pub invariant-loop-place : goal.invariant-loop-place
invariant-loop-place l = IsAdded l.initial.sum (row_at (take l.place-index l.row)) l.sum × (length l.sum ≡ length l.initial.sum)
