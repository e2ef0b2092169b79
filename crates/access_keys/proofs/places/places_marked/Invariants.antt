-- those of the statements so far
use Rattle.std.proofs.Common.{map, take}
use Rattle.path_walk.specs.Order.{head_seen}
use Rattle.access_keys.specs.Reached.{AreMarked}
use Rattle.access_keys.proofs.places.places_marked.Given as goal

abbrev pub invariant-loop-k : goal.invariant-loop-k
invariant-loop-k l = AreMarked (take l.k l.marks) (map head_seen (take l.k l.statements)) l.places
