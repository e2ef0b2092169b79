use Rattle.std.proofs.Common.{◌≡◌, ◌≤◌, ◌+◌, drop}
use Rattle.traffic_summary.specs.Summary.{live}
use Rattle.traffic_summary.proofs.lines.live.Given as goal

-- those so far, and those that are still to come, are all
abbrev pub invariant-loop-slot : goal.invariant-loop-slot
invariant-loop-slot l = record {
  all : l.count + live (drop l.slot-index l.slots) ≡ live l.slots;
  within : l.count ≤ l.slot-index;
}
