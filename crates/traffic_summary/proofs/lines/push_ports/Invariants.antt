use Rattle.std.proofs.Common.{◌≡◌, ◌≤◌, ◌++◌}
use Rattle.traffic_summary.specs.Summary.{port_lines}
use Rattle.traffic_summary.proofs.lines.push_ports.Given as goal

-- the lines of the ports so far are there
abbrev pub invariant-loop-port : goal.invariant-loop-port
invariant-loop-port l = record {
  lines : l.out.items ≡ l.initial.out.items ++ port_lines l.packets l.ports 0 l.port;
  within : l.port ≤ l.ports;
}
