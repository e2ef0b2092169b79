-- The queues of packets, where keys are given.
use Rattle.std.specs.Prelude.{ℕ, [], Option, Some, None}
use denote.Ref.{Bor}
use Rattle.nf_base.specs.declared.keys.Keys.{Keys}
use Rattle.nf_base.specs.Cards.{usual_card}
use Rattle.nf_base.specs.declared.packet.Packet.{Packet}
use Rattle.run_history.specs.declared.line.Mode.{Mode}
use Rattle.run_history.specs.declared.line.Mode.TheVariants.{One, Shard, Lock}
use Rattle.stream_run.specs.Rules.{queue_by}

-- keys that are lent
abbrev pub lent : Option (Bor Keys) → Option Keys
lent None = None
lent (Some keys) = Some keys.now

-- keys, none of which is for a port where none are given
abbrev pub keys_or_none : Option Keys → Keys
keys_or_none None = record { table = usual_card.table; ports = [] }
keys_or_none (Some keys) = keys

abbrev pub keys_in : Option (Bor Keys) → Keys
keys_in keys = keys_or_none (lent keys)

-- the queue of a packet, of so many workers; 0 where no keys are given
abbrev pub queue_in : Option (Bor Keys) → ℕ → Packet → ℕ
queue_in None workers packet = 0
queue_in (Some keys) workers packet = queue_by keys.now workers packet

-- mode `shard` has keys
abbrev pub IsKeyedBy : Mode → Option Keys → Type 0
IsKeyedBy One keys = Unit {0}
IsKeyedBy Shard None = ⊥
IsKeyedBy Shard (Some keys) = Unit {0}
IsKeyedBy Lock keys = Unit {0}

abbrev pub IsKeyed : Mode → Option (Bor Keys) → Type 0
IsKeyed mode keys = IsKeyedBy mode (lent keys)
