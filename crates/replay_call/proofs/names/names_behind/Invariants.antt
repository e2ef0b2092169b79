use Rattle.std.proofs.Common.{◌≡◌, ◌∷◌, map, string_bytes}
use Rattle.std.specs.List.{range_with_len}
use Rattle.call_base.specs.Names.{output_name}
use Rattle.replay_call.proofs.names.names_behind.Given as goal

-- the names so far
abbrev pub invariant-loop-port : goal.invariant-loop-port
invariant-loop-port l = record {
  named : map string_bytes l.names.items ≡ string_bytes l.journal ∷ map (output_name l.format (string_bytes l.out)) (range_with_len 0 l.port);
}
