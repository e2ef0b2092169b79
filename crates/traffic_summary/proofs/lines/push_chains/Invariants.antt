-- what is there, and what is still to come, are the whole
use Rattle.std.proofs.Common.{◌≡◌, ◌++◌, drop}
use Rattle.traffic_summary.specs.Summary.{entries_lines}
use Rattle.traffic_summary.proofs.lines.push_chains.Given as goal

abbrev pub invariant-loop-k : goal.invariant-loop-k
invariant-loop-k l = l.out.items ++ entries_lines (drop l.k l.decls) (drop l.k l.chains) ≡ l.initial.out.items ++ entries_lines l.decls l.chains
