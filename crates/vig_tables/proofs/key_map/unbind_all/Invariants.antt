-- those so far are changed
use Rattle.vig_tables.specs.Tagged.{IsUnboundIn}
use Rattle.vig_tables.proofs.Changes.{AreChangedBelow}
use Rattle.vig_tables.proofs.key_map.unbind_all.Given as goal

abbrev pub invariant-loop-k : goal.invariant-loop-k
invariant-loop-k l = AreChangedBelow l.k (IsUnboundIn l.labels l.i) l.initial.maps.items l.maps.items
