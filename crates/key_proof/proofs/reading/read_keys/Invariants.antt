-- the keys so far
use Rattle.key_proof.proofs.Read.{AreKeysSoFar}
use Rattle.key_proof.proofs.reading.read_keys.Given as goal

abbrev pub invariant-loop-port : goal.invariant-loop-port
invariant-loop-port l = AreKeysSoFar l.subject l.heading l.text l.initial.cursor l.cursor l.keys l.port
