-- the terms so far stand before those of the rest
use Rattle.std.proofs.Common.{length}
use Rattle.certificate_text.proofs.Summing.{AreBefore}
use Rattle.certificate_text.proofs.line.terms_in.Given as goal

abbrev pub invariant-loop-word : goal.invariant-loop-word
invariant-loop-word l = AreBefore l.positions l.bytes l.terms l.rest

abbrev pub decreases-loop-word : goal.decreases-loop-word
decreases-loop-word l = length l.rest
