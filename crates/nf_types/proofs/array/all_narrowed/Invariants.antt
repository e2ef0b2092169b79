use Rattle.std.proofs.Common.{◌≡◌, map, take}
use Rattle.nf_base.specs.Values.{narrowed}
use Rattle.nf_types.proofs.array.all_narrowed.Given as goal

abbrev pub invariant-loop-one : goal.invariant-loop-one
invariant-loop-one l = l.all.items ≡ map (λ n. narrowed l.width n.value) (take l.one-index l.contents)
