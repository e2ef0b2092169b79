-- none so far fails
use Rattle.std.proofs.Common.{◌≡◌, ◌<◌, ℕ, false, get_or}
use Rattle.key_rows.specs.declared.place.Place.{Place}
use Rattle.key_proof.specs.Judging.{pair_fails}
use Rattle.key_proof.proofs.judging.place_fails.Given as goal

abbrev pub invariant-loop-second : goal.invariant-loop-second
invariant-loop-second l = (j : ℕ) (d : Place) → j < l.second-index → pair_fails l.keys l.port l.first (get_or l.places j d) ≡ false
