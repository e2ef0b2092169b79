use Rattle.std.proofs.Common.{◌≡◌, ◌≤◌}
use Rattle.made_captures.specs.Captures.{numbers_from}
use Rattle.made_captures.proofs.captures.Captures.listed.Given as goal

abbrev pub invariant-loop-port : goal.invariant-loop-port
invariant-loop-port l = record {
  made : l.numbers.items ≡ numbers_from l.first l.port;
  within : l.port ≤ l.port-end;
}
