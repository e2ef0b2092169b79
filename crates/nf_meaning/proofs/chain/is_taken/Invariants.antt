-- what is left decides
use Rattle.std.proofs.Common.{◌≡◌, drop}
use Rattle.nf_base.specs.Chains.{is_taken}
use Rattle.nf_meaning.proofs.chain.is_taken.Given as goal

abbrev pub invariant-loop-m : goal.invariant-loop-m
invariant-loop-m l = is_taken (drop l.m-index l.maps) l.labels l.slots ≡ is_taken l.maps l.labels l.slots
