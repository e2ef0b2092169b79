use Rattle.std.proofs.Common.{◌≡◌, ◌++◌, take}
use Rattle.key_certificate.specs.Plain.{key_lines}
use Rattle.key_certificate.proofs.plain.push_keys.Given as goal

abbrev pub invariant-loop-port : goal.invariant-loop-port
invariant-loop-port l = l.lines.items ≡ l.initial.lines.items ++ key_lines 0 (take l.port l.keys.ports)
