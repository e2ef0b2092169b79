use Rattle.key_synth.specs.Verdicts.{AreKeptBefore}
use Rattle.key_proof.proofs.certifying.cause.Given as goal

abbrev pub invariant-loop-i : goal.invariant-loop-i
invariant-loop-i l = AreKeptBefore l.standings l.i
