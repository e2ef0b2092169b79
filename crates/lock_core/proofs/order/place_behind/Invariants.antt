-- what is left of the order decides
use Rattle.std.proofs.Common.{◌≡◌, ◌+◌, drop}
use Rattle.lock_core.specs.Steps.{place_behind}
use Rattle.lock_core.proofs.order.place_behind.Given as goal

abbrev pub invariant-loop-x : goal.invariant-loop-x
invariant-loop-x l =
    (l.place ≡ l.x-index)
    × (place_behind l.prefix l.order ≡ l.x-index + place_behind l.left (drop l.x-index l.order))
