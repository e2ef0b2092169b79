-- what is left decides
use Rattle.std.proofs.Common.{◌≡◌, drop}
use Rattle.nf_base.specs.Chains.{is_full}
use Rattle.nf_meaning.proofs.chain.is_full.Given as goal

abbrev pub invariant-loop-slot : goal.invariant-loop-slot
invariant-loop-slot l = is_full (drop l.slot-index l.slots) ≡ is_full l.slots
