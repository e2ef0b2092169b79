use Rattle.std.proofs.Common.{◌≡◌, map, take}
use Rattle.nf_base.specs.Chains.{alive}
use Rattle.nf_meaning.proofs.copies.copy_unexpired.Given as goal

abbrev pub invariant-loop-k : goal.invariant-loop-k
invariant-loop-k l = l.slots.items ≡ map (alive l.time l.lifetime) (take l.k l.chain.slots)
