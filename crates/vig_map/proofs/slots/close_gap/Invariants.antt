use Rattle.vig_map.specs.Slots.{AreMetButOver, AreSamePairs}
use Rattle.vig_map.proofs.slots.close_gap.Given as goal

abbrev pub invariant-loop-at : goal.invariant-loop-at
invariant-loop-at l = record {
  gapped : AreMetButOver l.starts l.gap l.at l.slots.items;
  same : AreSamePairs l.initial.slots.items l.slots.items;
}
