-- what is left of the order decides
use Rattle.std.proofs.Common.{◌≡◌, ◌≤◌, drop}
use Rattle.lock_core.specs.Calls.{calls_from, seen_by}
use Rattle.lock_core.proofs.Calls.{seen_from}
use Rattle.lock_core.proofs.order.seen_by.Given as goal

abbrev pub invariant-loop-x : goal.invariant-loop-x
invariant-loop-x l =
    (l.entries ≤ l.x-index)
    × (seen_by l.seat l.order ≡ seen_from l.seen (calls_from l.seat l.entries (drop l.x-index l.order)))
