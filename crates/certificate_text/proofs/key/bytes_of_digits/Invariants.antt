use Rattle.std.proofs.Common.{◌≡◌, ℕ, ◌<◌, length, get_or}
use Rattle.certificate_text.specs.Words.{byte_at}
use Rattle.certificate_text.proofs.key.bytes_of_digits.Given as goal

abbrev pub invariant-loop-i : goal.invariant-loop-i
invariant-loop-i l = record {
  whole : length l.bytes ≡ 52;
  made : (k : ℕ) → k < l.i → get_or l.bytes k 0 ≡ byte_at l.digits k;
}
