-- none so far fails
use Rattle.std.proofs.Common.{◌≡◌, ◌<◌, ℕ, false, get_or}
use Rattle.key_rows.specs.declared.place.Object.{Object}
use Rattle.key_proof.specs.Judging.{object_fails}
use Rattle.key_proof.proofs.judging.rows_fail.Given as goal

abbrev pub invariant-loop-object : goal.invariant-loop-object
invariant-loop-object l = (j : ℕ) (d : Object) → j < l.object-index → object_fails l.keys l.port (get_or l.objects j d) ≡ false
