-- what is there, and what is still to come, are the whole
use Rattle.std.proofs.Common.{◌≡◌, ◌++◌, drop}
use Rattle.verdict_text.specs.Verdict.{keys_text}
use Rattle.verdict_text.proofs.telling.push_keys.Given as goal

abbrev pub invariant-loop-port : goal.invariant-loop-port
invariant-loop-port l = l.out.items ++ keys_text l.port (drop l.port l.keys.ports) ≡ l.initial.out.items ++ keys_text 0 l.keys.ports
