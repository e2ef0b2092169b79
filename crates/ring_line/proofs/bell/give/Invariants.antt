use Rattle.std.proofs.Common.{◌≡◌}
use Rattle.rtrb.specs.Ring.{sent, SameProducer}
use Rattle.ring_line.proofs.bell.give.Given as goal

abbrev pub invariant-loop : goal.invariant-loop
invariant-loop g l = SameProducer l.initial.to l.to × (sent l.to ≡ sent l.initial.to) × (l.item ≡ l.initial.item)
