-- none so far is wrong
use Rattle.std.proofs.Common.{◌≡◌, drop}
use Rattle.key_proof.specs.Judging.{wrong_from, wrong_port}
use Rattle.key_proof.proofs.judging.wrong_port.Given as goal

abbrev pub invariant-loop-port : goal.invariant-loop-port
invariant-loop-port l = wrong_port l.objects l.card l.positions l.keys ≡ wrong_from l.objects l.card l.keys l.port (drop l.port l.positions)
