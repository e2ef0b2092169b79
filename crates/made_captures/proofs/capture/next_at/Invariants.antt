use Rattle.std.proofs.Common.{◌≡◌, ◌-◌}
use Rattle.made_captures.specs.Records.{at_port, sent_left}
use Rattle.made_captures.proofs.capture.next_at.Given as goal

abbrev pub invariant-packets : goal.invariant-packets
invariant-packets l = record {
  same : l.traffic.recipe ≡ l.fn.traffic.recipe;
  left : at_port l.port (sent_left l.fn.traffic) ≡ at_port l.port (sent_left l.traffic);
}

abbrev pub decreases-packets : goal.decreases-packets
decreases-packets l = l.traffic.recipe.count - l.traffic.given
