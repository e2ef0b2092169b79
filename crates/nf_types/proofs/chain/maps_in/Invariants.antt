-- what was counted, and what is left, are all
use Rattle.std.proofs.Common.{◌≡◌, ◌+◌, ◌*◌, ◌≤◌, drop}
use Rattle.nf_base.specs.Limits.{maps_in}
use Rattle.nf_types.proofs.chain.maps_in.Given as goal

abbrev pub invariant-loop-one : goal.invariant-loop-one
invariant-loop-one l = record {
  few : l.all ≤ 16 * l.one-index;
  counted : l.all + maps_in (drop l.one-index l.chains) ≡ maps_in l.chains;
}
