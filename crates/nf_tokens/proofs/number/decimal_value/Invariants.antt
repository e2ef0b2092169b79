use Rattle.std.proofs.Common.{◌≡◌, drop}
use Rattle.nf_tokens.specs.Numbers.{value_from}
use Rattle.nf_tokens.proofs.number.decimal_value.Given as goal

abbrev pub invariant-loop-b : goal.invariant-loop-b
invariant-loop-b l = value_from 10 l.value (drop l.b-index l.digits) ≡ value_from 10 0 l.digits
