use Rattle.std.proofs.Common.{◌≡◌, ◌==◌, ◌+◌, ◌<◌, ◌∙◌, ℕ, sym, ap, arith, true, false}
use Rattle.key_proof.proofs.Ranges.{one_more, any_here, any_none, all_bad, all_good}
use Rattle.std.proofs.lemmas.Bool.{eq-eqb, ne_eqb}
use Rattle.toeplitz_hash.specs.Bits.{bit_of}
use Rattle.key_proof.proofs.judging.has_one.Goals as goal

pub loop-i-preserved : goal.loop-i-preserved
loop-i-preserved c = one_more (λ j. bit_of c.args.key.now j == 1) false c.args.from c.loop-i.i c.loop-i.invariant (ne_eqb (bit_of c.args.key.now c.loop-i.i) 1 (λ is. c.if-bit_of-eq1.false (c.bit_of.ensures.value ∙ is)))

pub returns-then-bit_of-eq1 : goal.returns-then-bit_of-eq1
returns-then-bit_of-eq1 c = any_here (λ j. bit_of c.args.key.now j == 1) c.args.from c.args.count c.loop-i.i c.loop-i.auto.i c.loop-i-test.true (eq-eqb (bit_of c.args.key.now c.loop-i.i) 1 (sym c.bit_of.ensures.value ∙ c.if-bit_of-eq1.true))

pub returns : goal.returns
returns c = any_none (λ j. bit_of c.args.key.now j == 1) c.args.from c.args.count (λ j least below. c.loop-i.invariant j least (omega (arith, below, c.loop-i-test.false)))
