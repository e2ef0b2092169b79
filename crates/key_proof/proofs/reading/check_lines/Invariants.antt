-- what is due behind the lines so far
use Rattle.std.proofs.Common.{◌-◌, length}
use Rattle.certificate_check.specs.Checking.{due}
use Rattle.key_proof.proofs.Read.{IsTreeSoFar}
use Rattle.key_proof.proofs.reading.check_lines.Given as goal

abbrev pub invariant-loop-line : goal.invariant-loop-line
invariant-loop-line l = IsTreeSoFar l.subject l.heading l.initial.checker.rows l.initial.checker.spans l.text l.fn.start (due l.initial.checker) l.cursor l.checker

abbrev pub decreases-loop-line : goal.decreases-loop-line
decreases-loop-line l = length l.text - l.cursor.at
