use Rattle.std.proofs.Common.{◌≡◌, ◌==◌, ◌+◌, ◌<◌, ◌∙◌, ℕ, sym, ap, arith, true, false}
use Rattle.key_proof.proofs.Ranges.{one_more, any_here, any_none, all_bad, all_good}
use Rattle.key_proof.specs.Judging.{class_fails}
use Rattle.key_proof.proofs.judging.classes_fail.Goals as goal

pub loop-k-preserved : goal.loop-k-preserved
loop-k-preserved c = one_more (class_fails c.args.keys.now c.args.port c.args.first.now c.args.second.now) false 0 c.loop-k.k c.loop-k.invariant (sym c.class_fails.ensures ∙ c.if-class_fails.false)

pub returns-then-class_fails : goal.returns-then-class_fails
returns-then-class_fails c = any_here (class_fails c.args.keys.now c.args.port c.args.first.now c.args.second.now) 0 c.args.most c.loop-k.k (omega arith) (omega (arith, c.loop-k-test.true)) (sym c.class_fails.ensures ∙ c.if-class_fails.true)

pub returns : goal.returns
returns c = any_none (class_fails c.args.keys.now c.args.port c.args.first.now c.args.second.now) 0 c.args.most (λ j least below. c.loop-k.invariant j least (omega (arith, below, c.loop-k-test.false)))
