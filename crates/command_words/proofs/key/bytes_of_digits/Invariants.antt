use Rattle.std.proofs.Common.{◌≡◌, ℕ, ◌<◌, length, get_or}
use Rattle.command_words.specs.Texts.{byte_at}
use Rattle.command_words.proofs.key.bytes_of_digits.Given as goal

abbrev pub invariant-loop-i : goal.invariant-loop-i
invariant-loop-i l = record {
  whole : length l.bytes ≡ 52;
  made : (k : ℕ) → k < l.i → get_or l.bytes k 0 ≡ byte_at l.digits k;
}
