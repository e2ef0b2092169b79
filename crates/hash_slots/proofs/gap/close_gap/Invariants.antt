use Rattle.hash_slots.specs.Places.{AreMetButOver, AreSamePairs}
use Rattle.hash_slots.proofs.gap.close_gap.Given as goal

abbrev pub invariant-loop-at : goal.invariant-loop-at
invariant-loop-at l = record {
  gapped : AreMetButOver l.mask l.gap l.at l.cells;
  same : AreSamePairs l.initial.cells l.cells;
}
