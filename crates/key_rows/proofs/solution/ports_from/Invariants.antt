use Rattle.std.proofs.Common.{◌≡◌, map}
use Rattle.std.specs.List.{range_with_len}
use Rattle.key_rows.specs.Positions.{positions_at}
use Rattle.key_rows.specs.Solutions.{given_key}
use Rattle.key_rows.proofs.solution.ports_from.Given as goal

abbrev pub invariant-loop-port : goal.invariant-loop-port
invariant-loop-port l = l.keys ≡ map (given_key l.size (positions_at l.six l.objects) l.objects l.bits) (range_with_len 0 l.port)
