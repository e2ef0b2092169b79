use Rattle.packet_feed.specs.Sources.{IsFirst}
use Rattle.packet_feed.proofs.first.earliest.Given as goal

-- the first of those so far
abbrev pub invariant-loop-port : goal.invariant-loop-port
invariant-loop-port l = IsFirst l.sources l.port l.first
