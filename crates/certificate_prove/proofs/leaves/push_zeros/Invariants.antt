use Rattle.std.proofs.Common.{◌≡◌, ◌++◌}
use Rattle.certificate_laws.specs.Due.{sum_lines}
use Rattle.certificate_laws.specs.Leaves.{zero_sums}
use Rattle.certificate_prove.proofs.leaves.push_zeros.Given as goal

abbrev pub invariant-loop-i : goal.invariant-loop-i
invariant-loop-i l = l.out.items ≡ l.initial.out.items ++ sum_lines (zero_sums l.i l.span.first)
