use Rattle.std.proofs.Common.{◌≡◌, take}
use Rattle.certificate_prove.specs.Growing.{row_terms}
use Rattle.certificate_prove.proofs.leaves.row_terms.Given as goal

abbrev pub invariant-loop-place : goal.invariant-loop-place
invariant-loop-place l = l.terms ≡ row_terms l.k (take l.place-index l.row)
