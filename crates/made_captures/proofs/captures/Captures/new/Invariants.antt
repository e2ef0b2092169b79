use Rattle.std.proofs.Common.{◌≡◌, ◌≤◌, length}
use Rattle.gen_traffic.specs.Traffic.{Recipe}
use Rattle.made_captures.specs.Captures.{captures_from}
use Rattle.made_captures.proofs.captures.Captures.new.Given as goal

abbrev pub invariant-loop-port : goal.invariant-loop-port
invariant-loop-port l =
    let r : Recipe = record { seed = l.seed; count = l.count; flows = l.flows; ports = l.ports } in
    record {
      made : l.captures ≡ captures_from r 0 l.port;
      long : length l.captures ≡ l.port;
      within : l.port ≤ l.ports;
    }
