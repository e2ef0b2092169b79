use Rattle.std.proofs.Common.{sym, ◌∙◌, arith, true}
use Rattle.key_proof.specs.Rows.{is_longer}
use Rattle.key_proof.proofs.Ranges.{one_more, all_bad, all_good}
use Rattle.key_proof.proofs.rows.are_longer.Goals as goal

pub loop-m-preserved : goal.loop-m-preserved
loop-m-preserved c =
    one_more (is_longer c.args.first.now c.args.second.now c.args.k c.args.t) true 0 c.loop-m.m c.loop-m.invariant (sym c.is_longer.ensures ∙ c.if-not-is_longer.false)

pub returns-then-not-is_longer : goal.returns-then-not-is_longer
returns-then-not-is_longer c =
    all_bad (is_longer c.args.first.now c.args.second.now c.args.k c.args.t) 0 8 c.loop-m.m (omega arith) (omega (arith, c.loop-m-test.true)) (sym c.is_longer.ensures ∙ c.if-not-is_longer.true)

pub returns : goal.returns
returns c = all_good (is_longer c.args.first.now c.args.second.now c.args.k c.args.t) 0 8 (λ j least below. c.loop-m.invariant j least (omega (arith, below, c.loop-m-test.false)))
