-- the ports so far have few enough paths, and these are their numbers
use Rattle.std.proofs.Common.{◌≡◌, ◌<◌, ◌≤◌, map}
use Rattle.std.specs.List.{range_with_len}
use Rattle.nf_base.specs.Functions.{function_of}
use Rattle.nf_base.specs.declared.packet.Door.{Door}
use Rattle.call_base.specs.Source.{path_count, port_counts}
use Rattle.call_base.proofs.function.counted.Given as goal

abbrev pub invariant-ports : goal.invariant-ports
invariant-ports l = record {
  so_far : l.counts.items ≡ map (port_counts (function_of l.func)) (range_with_len 0 l.port);
  few : (other : Door) → other.port < l.port → path_count (function_of l.func) other ≤ 4096;
}
