use Rattle.nf_base.specs.Functions.{function_of}
use Rattle.key_certificate.proofs.Numbered.{all_numbered}
use Rattle.key_certificate.proofs.proving.prove.Goals as goal

pub plain-requires-clause-numbered : goal.plain-requires-clause-numbered
plain-requires-clause-numbered c = all_numbered (function_of c.args.func.now) c.requires.declares
