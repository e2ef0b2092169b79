use Rattle.key_synth.specs.Verdicts.{AreKeptBefore}
use Rattle.key_synth.proofs.cause.cause.Given as goal

abbrev pub invariant-loop-i : goal.invariant-loop-i
invariant-loop-i l = AreKeptBefore l.standings l.i
