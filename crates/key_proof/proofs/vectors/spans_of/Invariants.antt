use Rattle.std.proofs.Common.{◌≡◌}
use Rattle.certificate_laws.specs.Certificates.{spans_of}
use Rattle.key_proof.proofs.vectors.spans_of.Given as goal

abbrev pub invariant-loop-port : goal.invariant-loop-port
invariant-loop-port l = l.spans ≡ spans_of l.objects l.table l.port
