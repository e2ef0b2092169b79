use Rattle.std.proofs.Common.{arith}
use Rattle.key_proof.specs.Judging.{object_fails}
use Rattle.key_proof.proofs.Ranges.{none_of}
use Rattle.key_proof.proofs.judging.rows_fail.Goals as goal

pub returns : goal.returns
returns c = none_of (object_fails c.args.keys.now c.args.port) c.args.objects.now (λ k d below. c.loop-object.invariant k d (omega (arith, below, c.loop-object-test.false)))
