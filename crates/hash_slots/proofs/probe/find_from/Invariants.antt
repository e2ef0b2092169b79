use Rattle.std.proofs.Common.{ℕ, ◌≤◌, ◌<◌}
use Rattle.hash_slots.specs.Places.{IsMissed}
use Rattle.hash_slots.proofs.probe.find_from.Given as goal

abbrev pub invariant-loop-at : goal.invariant-loop-at
invariant-loop-at g l = record {
  from_on : l.from ≤ l.at;
  missed : (x : ℕ) → l.from ≤ x → x < l.at → IsMissed (goal.F-post g l.is_key) l.cells l.tag x;
}
