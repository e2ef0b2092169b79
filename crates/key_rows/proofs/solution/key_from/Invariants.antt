use Rattle.std.proofs.Common.{◌≡◌, ℕ, ◌<◌, length, get_or}
use Rattle.key_rows.specs.Solutions.{byte_of}
use Rattle.key_rows.proofs.solution.key_from.Given as goal

abbrev pub invariant-loop-i : goal.invariant-loop-i
invariant-loop-i l = record {
  long : length l.bytes ≡ 52;
  front : (k : ℕ) → k < l.i → get_or l.bytes k 0 ≡ byte_of l.bits l.port l.count k;
}
