use Rattle.std.proofs.Common.{◌≡◌, ◌+◌, drop}
use Rattle.nf_tokens.specs.Bytes.{in_number, front_length}
use Rattle.nf_tokens.proofs.lexer.number_length.Given as goal

abbrev pub invariant-loop-i : goal.invariant-loop-i
invariant-loop-i l = front_length in_number l.bytes ≡ l.i + front_length in_number (drop l.i l.bytes)
