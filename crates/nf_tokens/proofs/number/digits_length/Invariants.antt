use Rattle.std.proofs.Common.{◌≡◌, ◌+◌, drop}
use Rattle.nf_tokens.specs.Bytes.{is_digit, front_length}
use Rattle.nf_tokens.proofs.number.digits_length.Given as goal

abbrev pub invariant-loop-i : goal.invariant-loop-i
invariant-loop-i l = front_length is_digit l.bytes ≡ l.i + front_length is_digit (drop l.i l.bytes)
