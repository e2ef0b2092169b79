use Rattle.std.proofs.Common.{◌≡◌, ◌+◌, ◌*◌, ◌^◌, ◌<◌}
use Rattle.toeplitz_hash.specs.Bits.{number_of}
use Rattle.key_rows.specs.Solutions.{solution_bit}
use Rattle.key_rows.proofs.solution.byte_from.Given as goal

abbrev pub invariant-loop-j : goal.invariant-loop-j
invariant-loop-j l = record {
  so_far : l.byte ≡ number_of l.j (λ j. solution_bit l.bits l.port l.count (8 * l.i + j));
  fits : l.byte < 2 ^ l.j;
}
