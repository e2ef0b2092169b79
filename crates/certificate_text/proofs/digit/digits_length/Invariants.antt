use Rattle.std.proofs.Common.{◌≡◌, ◌+◌, drop}
use Rattle.nf_tokens.specs.Bytes.{is_hex_digit, front_length}
use Rattle.certificate_text.proofs.digit.digits_length.Given as goal

abbrev pub invariant-loop-i : goal.invariant-loop-i
invariant-loop-i l = front_length is_hex_digit l.text ≡ l.i + front_length is_hex_digit (drop l.i l.text)
