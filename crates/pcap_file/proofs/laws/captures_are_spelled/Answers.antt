use Rattle.std.proofs.Common.{ℕ, ◌<◌, inl, inr, List, length, arith}
use Rattle.std.specs.List.{All}
use Rattle.std.proofs.lemmas.Bool.{cases_lt}
use Rattle.std.proofs.lemmas.List.{get_or_past}
use Rattle.std.proofs.lemmas.List.Elements.{All-get_or}
use Rattle.pcap_file.proofs.Numbers.{IsBytes}
use Rattle.pcap_file.proofs.Spelling.{is_spelled, is_read}
use Rattle.pcap_file.proofs.laws.captures_are_spelled.Goals as goal

-- a byte of a list, or 0 behind its end
below : (bytes : List ℕ) → All (λ b. b < 256) bytes → IsBytes bytes
below bytes all i = elim (cases_lt i (length bytes)) [
  | inl lt ↦ All-get_or (λ b. b < 256) bytes i 0 lt all
  | inr past ↦ omega (arith, get_or_past bytes i 0 past)
]

pub returns-clause-spelled : goal.returns-clause-spelled
returns-clause-spelled c = λ bytes d all e. is_spelled bytes d (below bytes all) e

pub returns-clause-only : goal.returns-clause-only
returns-clause-only c = λ bytes d lt s. is_read bytes d lt s
