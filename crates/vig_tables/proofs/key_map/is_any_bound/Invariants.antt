-- none so far is bound
use Rattle.std.proofs.Common.{◌≡◌, ℕ, ◌<◌, false, get_or}
use Rattle.vig_tables.specs.Tagged.{Tagged, is_bound_in}
use Rattle.vig_tables.proofs.key_map.is_any_bound.Given as goal

abbrev pub invariant-loop-k : goal.invariant-loop-k
invariant-loop-k l =
    (j : ℕ) (d : Tagged) → j < l.k → is_bound_in l.labels l.row (get_or l.maps j d) ≡ false
