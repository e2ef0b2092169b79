use Rattle.std.proofs.Common.{arith}
use Rattle.hash_slots.proofs.Gaps.{shifted, shifted_same}
use Rattle.hash_slots.proofs.gap.shift.Goals as goal

pub returns-clause-gap : goal.returns-clause-gap
returns-clause-gap c = rw (c.set-2.ensures, c.set.ensures) (shifted c.args.mask c.args.gap c.args.at c.args.cells.now c.args.pair c.requires.gap c.requires.there (omega (arith, c.home.ensures.value, c.if-home-gap.false)))

pub returns-clause-same : goal.returns-clause-same
returns-clause-same c = rw (c.set-2.ensures, c.set.ensures) (shifted_same c.args.gap c.args.at c.args.cells.now c.args.pair c.requires.gap.empty c.requires.gap.order c.requires.there)
