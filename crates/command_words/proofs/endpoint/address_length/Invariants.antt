use Rattle.std.proofs.Common.{◌≡◌, ◌+◌, drop}
use Rattle.nf_tokens.specs.Bytes.{front_length}
use Rattle.command_words.specs.Texts.{in_address}
use Rattle.command_words.proofs.endpoint.address_length.Given as goal

abbrev pub invariant-loop-i : goal.invariant-loop-i
invariant-loop-i l = front_length in_address l.text ≡ l.i + front_length in_address (drop l.i l.text)
