use Rattle.std.proofs.Common.{◌≡◌, drop}
use Rattle.nf_tokens.specs.Numbers.{value_from}
use Rattle.nf_tokens.proofs.number.hex_value.Given as goal

abbrev pub invariant-loop-b : goal.invariant-loop-b
invariant-loop-b l = value_from 16 l.value (drop l.b-index l.digits) ≡ value_from 16 0 l.digits
