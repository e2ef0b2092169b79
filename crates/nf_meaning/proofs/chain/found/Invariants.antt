-- what is left decides
use Rattle.std.proofs.Common.{◌≡◌, ◌+◌, drop}
use Rattle.std.specs.Option.{option_map}
use Rattle.nf_base.specs.Chains.{found}
use Rattle.nf_meaning.proofs.chain.found.Given as goal

abbrev pub invariant-loop-slot : goal.invariant-loop-slot
invariant-loop-slot l = (l.i ≡ l.slot-index) × (option_map (λ i. l.i + i) (found l.m l.key (drop l.slot-index l.slots)) ≡ found l.m l.key l.slots)
