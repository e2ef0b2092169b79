-- the front stands
use Rattle.std.proofs.Common.{◌≡◌, take}
use Rattle.nf_base.specs.Doors.{six_ports}
use Rattle.nf_base.specs.Functions.{function_of}
use Rattle.key_synth.proofs.synthesis.six_ports.Given as goal

abbrev pub invariant-loop-port : goal.invariant-loop-port
invariant-loop-port l = l.six ≡ take l.port (six_ports (function_of l.func))
