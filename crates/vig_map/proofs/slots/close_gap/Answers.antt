use Rattle.std.proofs.Common.{arith}
use Rattle.vig_map.proofs.SlotLemmas.{none_read, slot_past}
use Rattle.vig_map.proofs.Gaps.{closed, same_along}
use Rattle.vig_map.proofs.slots.close_gap.Goals as goal

pub returns-then-is_none-clause-met : goal.returns-then-is_none-clause-met
returns-then-is_none-clause-met c = closed c.args.starts c.loop-at.gap c.loop-at.at c.loop-at.slots.items c.loop-at.invariant.gapped (none_read c.loop-at.slots.items c.loop-at.at c.index.result.now c.is_none.result (omega (arith, c.loop-at-test.true, c.len-at-end.ensures, c.loop-at.invariant.same.size)) c.index.ensures c.is_none.ensures c.if-is_none.true)

pub loop-at-preserved : goal.loop-at-preserved
loop-at-preserved c = record {
  gapped = c.shift-gap.ensures.gap;
  same = same_along _ _ _ c.loop-at.invariant.same c.shift-gap.ensures.same;
}

pub returns-clause-met : goal.returns-clause-met
returns-clause-met c = closed c.args.starts c.loop-at.gap c.loop-at.at c.loop-at.slots.items c.loop-at.invariant.gapped (slot_past c.loop-at.slots.items c.loop-at.at (omega (arith, c.loop-at-test.false, c.len-at-end.ensures, c.loop-at.invariant.same.size)))
