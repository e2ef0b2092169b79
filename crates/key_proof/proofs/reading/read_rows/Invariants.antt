-- the rows so far
use Rattle.std.proofs.Common.{◌-◌, length}
use Rattle.key_proof.proofs.Read.{AreRowsSoFar}
use Rattle.key_proof.proofs.reading.read_rows.Given as goal

abbrev pub invariant-loop-line : goal.invariant-loop-line
invariant-loop-line l = AreRowsSoFar l.subject l.heading l.text l.initial.cursor l.cursor l.rows

abbrev pub decreases-loop-line : goal.decreases-loop-line
decreases-loop-line l = length l.text - l.cursor.at
