-- what is left decides
use Rattle.std.proofs.Common.{◌≡◌, ◌+◌, drop}
use Rattle.nf_meaning.specs.Choices.{least_vacant}
use Rattle.nf_meaning.proofs.chain.least_vacant.Given as goal

abbrev pub invariant-loop-slot : goal.invariant-loop-slot
invariant-loop-slot l = (l.i ≡ l.slot-index) × (l.i + least_vacant (drop l.slot-index l.slots) ≡ least_vacant l.slots)
