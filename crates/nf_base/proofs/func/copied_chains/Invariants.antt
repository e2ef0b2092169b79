-- what was copied is the front
use Rattle.std.proofs.Common.{◌≡◌, take}
use Rattle.nf_base.proofs.func.copied_chains.Given as goal

abbrev pub invariant-loop-one : goal.invariant-loop-one
invariant-loop-one l = l.all ≡ take l.one-index l.chains
