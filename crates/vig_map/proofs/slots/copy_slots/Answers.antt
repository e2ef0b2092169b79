use Rattle.std.proofs.Common.{arith}
use Rattle.std.specs.Prelude.{None}
use Rattle.std.proofs.lemmas.List.{ext_get_or}
use Rattle.vig_map.proofs.slots.copy_slots.Goals as goal

pub returns : goal.returns
returns c = ext_get_or None c.loop-i.slots.items c.args.others.now c.loop-i.invariant.count (λ k lt. c.loop-i.invariant.same k (omega arith))
