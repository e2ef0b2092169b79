-- What a round's outcome says of its batch.
use Rattle.std.specs.Prelude.{◌≡◌, List, ◌∷◌, ◌++◌, map, None, Some}
use Rattle.nf_base.specs.declared.packet.Packet.{Packet}
use Rattle.shard_machine.specs.Machine.{Setup, Machine, packets_of}
use Rattle.shard_core.specs.declared.collected.Collected.{Collected}
use Rattle.shard_core.specs.declared.collected.Stop.{Stop}
use Rattle.shard_core.specs.Sharded.{Sharded}
use Rattle.shard_rounds.specs.declared.round.Round.{Round}
use Rattle.shard_rounds.specs.Rounds.{RanRound}

-- the packets that a round handed out
abbrev pub handled_packets : Round → List Packet
handled_packets round = map (λ (c : Collected). c.packet) round.handled

-- where all before it was collected and no stop is told, it handed out its batch, in order
abbrev pub HandsOutItsBatch : Type 0
HandsOutItsBatch =
    (x : Setup) (m : Machine) (batch : List Packet) (round : Round) (new : Sharded) →
    RanRound x m batch round new → packets_of m.collected ≡ m.dispatched →
    round.stop ≡ None → handled_packets round ≡ batch

-- where a stop is told, what stands in the batch before its packet
abbrev pub HandsOutUpToTheStop : Type 0
HandsOutUpToTheStop =
    (x : Setup) (m : Machine) (batch : List Packet) (round : Round) (new : Sharded)
    (stop : Stop) →
    RanRound x m batch round new → packets_of m.collected ≡ m.dispatched →
    round.stop ≡ Some stop →
    (later : List Packet) × (batch ≡ handled_packets round ++ stop.packet ∷ later)
