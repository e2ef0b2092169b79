use Rattle.std.proofs.Common.{arith, length, refl}
use Rattle.gf2_solve.specs.Sums.{bit}
use Rattle.certificate_check.proofs.Vectors.{named_more, named_all}
use Rattle.certificate_check.proofs.naming.push_nots.Goals as goal

pub loop-place-preserved-in-Continue-1 : goal.loop-place-preserved-in-Continue-1
loop-place-preserved-in-Continue-1 c =
    named_more _ _ _ _ c.loop-place.place _ (omega (arith, c.loop-place-test.true)) _ _ _ _ c.if-counted-place.true refl refl c.in_ok-push_bit.ensures c.loop-place.invariant

pub returns-clause-due : goal.returns-clause-due
returns-clause-due c = named_all (bit c.args.counted.now) (length c.args.x.now) c.args.wanted.now c.args.x.now c.loop-place.place c.loop-place.tasks.items (omega (arith, c.loop-place-test.false)) c.loop-place.invariant
