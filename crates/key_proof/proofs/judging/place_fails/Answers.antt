use Rattle.std.proofs.Common.{arith}
use Rattle.key_proof.specs.Judging.{pair_fails}
use Rattle.key_proof.proofs.Ranges.{none_of}
use Rattle.key_proof.proofs.judging.place_fails.Goals as goal

pub returns : goal.returns
returns c = none_of (pair_fails c.args.keys.now c.args.port c.args.first.now) c.args.places.now (λ k d below. c.loop-second.invariant k d (omega (arith, below, c.loop-second-test.false)))
