use Rattle.std.proofs.Common.{◌≡◌, drop}
use Rattle.packet_feed.specs.Feeding.{first_tear, tears_in}
use Rattle.packet_feed.proofs.sources.torn.Given as goal

-- none so far is torn
abbrev pub invariant-loop-port : goal.invariant-loop-port
invariant-loop-port l = first_tear l.port (drop l.port (tears_in l.sources)) ≡ first_tear 0 (tears_in l.sources)
