use Rattle.std.proofs.Common.{◌≡◌, ◌==◌, ◌+◌, ◌<◌, ◌∙◌, ℕ, sym, ap, arith, true, false}
use Rattle.key_proof.proofs.Ranges.{one_more, any_here, any_none, all_bad, all_good}
use Rattle.key_proof.specs.Judging.{bit_fails}
use Rattle.key_proof.proofs.judging.bits_fail.Goals as goal

pub loop-u-preserved : goal.loop-u-preserved
loop-u-preserved c = one_more (bit_fails c.args.keys.now c.args.first.now c.args.second.now c.args.k) false 0 c.loop-u.u c.loop-u.invariant (sym c.bit_fails.ensures ∙ c.if-bit_fails.false)

pub returns-then-bit_fails : goal.returns-then-bit_fails
returns-then-bit_fails c = any_here (bit_fails c.args.keys.now c.args.first.now c.args.second.now c.args.k) 0 c.args.most c.loop-u.u (omega arith) (omega (arith, c.loop-u-test.true)) (sym c.bit_fails.ensures ∙ c.if-bit_fails.true)

pub returns : goal.returns
returns c = any_none (bit_fails c.args.keys.now c.args.first.now c.args.second.now c.args.k) 0 c.args.most (λ j least below. c.loop-u.invariant j least (omega (arith, below, c.loop-u-test.false)))
