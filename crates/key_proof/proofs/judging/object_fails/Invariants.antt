-- none so far fails
use Rattle.std.proofs.Common.{◌≡◌, ◌<◌, ℕ, false, get_or}
use Rattle.std.specs.List.{list_any}
use Rattle.key_rows.specs.declared.place.Place.{Place}
use Rattle.key_proof.specs.Judging.{pair_fails}
use Rattle.key_proof.proofs.judging.object_fails.Given as goal

abbrev pub invariant-loop-first : goal.invariant-loop-first
invariant-loop-first l = (j : ℕ) (d : Place) → j < l.first-index → list_any (pair_fails l.keys l.port (get_or l.object.places j d)) l.object.places ≡ false
