-- those so far are changed
use Rattle.vig_tables.specs.Tagged.{IsBoundIn}
use Rattle.vig_tables.proofs.Changes.{AreChangedBelow}
use Rattle.vig_tables.proofs.key_map.bind_all.Given as goal

abbrev pub invariant-loop-k : goal.invariant-loop-k
invariant-loop-k l = AreChangedBelow l.k (IsBoundIn l.labels l.i) l.initial.maps.items l.maps.items
