use Rattle.std.proofs.Common.{◌≡◌, map}
use Rattle.std.specs.List.{range_with_len}
use Rattle.nf_base.specs.Doors.{six_ports}
use Rattle.nf_base.specs.Functions.{function_of}
use Rattle.key_rows.specs.Positions.{positions_at}
use Rattle.key_proof.proofs.subject.all_positions.Given as goal

abbrev pub invariant-loop-port : goal.invariant-loop-port
invariant-loop-port l = l.positions ≡ map (positions_at (six_ports (function_of l.func)) l.objects) (range_with_len 0 l.port)
