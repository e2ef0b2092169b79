use Rattle.std.proofs.Common.{arith, ap, length}
use Rattle.std.specs.List.{list_any}
use Rattle.key_proof.specs.Judging.{pair_fails}
use Rattle.key_proof.proofs.Ranges.{none_of}
use Rattle.key_proof.proofs.judging.object_fails.Goals as goal

pub returns : goal.returns
returns c =
    none_of (λ p. list_any (pair_fails c.args.keys.now c.args.port p) c.args.object.now.places) c.args.object.now.places
    (λ k d below. c.loop-first.invariant k d (omega (arith, below, c.loop-first-test.false, ap length c.as_slice-first-items.ensures)))
