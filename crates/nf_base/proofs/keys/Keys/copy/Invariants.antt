-- the keys of the ports so far
use Rattle.std.proofs.Common.{◌≡◌, take}
use Rattle.nf_base.proofs.keys.Keys.copy.Given as goal

abbrev pub invariant-loop-port : goal.invariant-loop-port
invariant-loop-port l = l.ports ≡ take l.port l.self.ports
