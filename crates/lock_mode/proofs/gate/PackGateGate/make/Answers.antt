use Rattle.std.proofs.Common.{ap}
use Rattle.lock_mode.proofs.Rising.{opens}
use Rattle.lock_mode.proofs.gate.PackGateGate.make.Goals as goal

pub new-requires-clause-rule : goal.new-requires-clause-rule
new-requires-clause-rule g c = opens c.args.first (ap (λ s. s.1) c.requires.opens)
