use Rattle.std.proofs.Common.{take, length, ◌≡◌}
use Rattle.certificate_laws.specs.Terms.{rows_at, total}
use Rattle.certificate_check.specs.Adding.{IsAdded}
use Rattle.certificate_check.proofs.sums.add_terms.Given as goal

abbrev pub invariant-loop-term : goal.invariant-loop-term
invariant-loop-term l = IsAdded l.initial.sum (total (rows_at l.rows) (take l.term-index l.terms)) l.sum × (length l.sum ≡ length l.initial.sum)
