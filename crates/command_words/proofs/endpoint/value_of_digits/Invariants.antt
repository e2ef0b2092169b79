use Rattle.std.proofs.Common.{◌≡◌, ◌<◌, ◌^◌, drop}
use Rattle.nf_tokens.specs.Numbers.{value_from}
use Rattle.command_words.proofs.endpoint.value_of_digits.Given as goal

abbrev pub invariant-loop-digit : goal.invariant-loop-digit
invariant-loop-digit l = record {
  value : value_from 16 l.value (drop l.digit-index l.digits) ≡ value_from 16 0 l.digits;
  within : l.value < 16 ^ l.digit-index;
}
