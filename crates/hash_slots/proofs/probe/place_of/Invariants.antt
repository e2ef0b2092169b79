use Rattle.std.proofs.Common.{ℕ, ◌≤◌, ◌<◌}
use Rattle.hash_slots.specs.Places.{IsPassed}
use Rattle.hash_slots.proofs.probe.place_of.Given as goal

abbrev pub invariant-loop-at : goal.invariant-loop-at
invariant-loop-at l = record {
  from_on : l.from ≤ l.at;
  passed : (x : ℕ) → l.from ≤ x → x < l.at → IsPassed l.cells l.wanted x;
}
