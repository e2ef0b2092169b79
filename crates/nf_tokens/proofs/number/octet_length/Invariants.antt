use Rattle.std.proofs.Common.{◌≡◌, ◌+◌, drop}
use Rattle.nf_tokens.specs.Bytes.{in_octet, front_length}
use Rattle.nf_tokens.proofs.number.octet_length.Given as goal

abbrev pub invariant-loop-i : goal.invariant-loop-i
invariant-loop-i l = front_length in_octet l.bytes ≡ l.i + front_length in_octet (drop l.i l.bytes)
