-- what was copied is the front
use Rattle.std.proofs.Common.{◌≡◌, take}
use Rattle.vig_tables.proofs.key_map.copied_maps.Given as goal

abbrev pub invariant-loop-map : goal.invariant-loop-map
invariant-loop-map l = l.copy.items ≡ take l.map-index l.maps
