use Rattle.std.proofs.Common.{◌≡◌, ◌==◌, ◌+◌, ◌<◌, ◌∙◌, ℕ, sym, ap, arith, true, false}
use Rattle.key_proof.proofs.Ranges.{one_more, any_here, any_none, all_bad, all_good}
use Rattle.key_proof.specs.Judging.{has_bit}
use Rattle.key_proof.proofs.judging.are_within.Goals as goal

pub loop-m-preserved : goal.loop-m-preserved
loop-m-preserved c = one_more (has_bit c.args.first.now c.args.second.now c.args.k c.args.u) true 0 c.loop-m.m c.loop-m.invariant (sym c.has_bit.ensures ∙ c.if-not-has_bit.false)

pub returns-then-not-has_bit : goal.returns-then-not-has_bit
returns-then-not-has_bit c = all_bad (has_bit c.args.first.now c.args.second.now c.args.k c.args.u) 0 8 c.loop-m.m (omega arith) (omega (arith, c.loop-m-test.true)) (sym c.has_bit.ensures ∙ c.if-not-has_bit.true)

pub returns : goal.returns
returns c = all_good (has_bit c.args.first.now c.args.second.now c.args.k c.args.u) 0 8 (λ j least below. c.loop-m.invariant j least (omega (arith, below, c.loop-m-test.false)))
