use Rattle.std.proofs.Common.{◌∙◌, sym, arith}
use Rattle.hash_slots.proofs.SlotLemmas.{slot_past}
use Rattle.hash_slots.proofs.Gaps.{closed}
use Rattle.hash_slots.proofs.gap.close_gap.Goals as goal

pub returns-in-None-clause-met : goal.returns-in-None-clause-met
returns-in-None-clause-met c = closed c.args.mask c.loop-at.gap c.loop-at.at c.loop-at.cells c.loop-at.invariant.gapped (sym c.get.ensures.value ∙ c.in-None.is)

pub returns-clause-met : goal.returns-clause-met
returns-clause-met c = closed c.args.mask c.loop-at.gap c.loop-at.at c.loop-at.cells c.loop-at.invariant.gapped (slot_past c.loop-at.cells c.loop-at.at (omega (arith, c.loop-at-test.false, c.len-end.ensures, c.loop-at.invariant.same.size)))
