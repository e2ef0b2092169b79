use Rattle.std.proofs.Common.{ℕ, ◌≤◌, ◌<◌}
use Rattle.vig_map.specs.Hashes.{first_slot}
use Rattle.vig_map.specs.Slots.{IsPassed}
use Rattle.vig_map.proofs.slots.search.Given as goal

abbrev pub invariant-loop-i : goal.invariant-loop-i
invariant-loop-i l = record {
  from_on : first_slot l.starts l.key ≤ l.i;
  passed : (x : ℕ) → first_slot l.starts l.key ≤ x → x < l.i → IsPassed l.slots l.key x;
}
