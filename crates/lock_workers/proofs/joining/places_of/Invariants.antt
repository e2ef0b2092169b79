use Rattle.lock_workers.proofs.Placed.{ArePlaced}
use Rattle.lock_workers.proofs.joining.places_of.Given as goal

-- the first packets have their places
abbrev pub invariant-loop-i : goal.invariant-loop-i
invariant-loop-i l = ArePlaced l.own l.order l.i l.taken.items l.all.items
