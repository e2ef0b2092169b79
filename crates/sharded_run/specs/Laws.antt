-- Laws of runs in mode `shard`.
use Rattle.std.specs.Prelude.{◌≡◌, ◌<◌, ◌%◌, ℕ, List, [], length, map, take, Some, None, slice_get, All}
use Rattle.nf_base.specs.declared.card.Card.{Card}
use Rattle.nf_base.specs.declared.keys.Keys.{Keys}
use Rattle.nf_base.specs.declared.packet.Packet.{Packet}
use Rattle.nf_base.specs.Doors.{handler_at}
use Rattle.nf_base.specs.Families.{door_of}
use Rattle.nf_base.specs.Text.{Function, Block}
use Rattle.nf_base.specs.Step.{input, start_context}
use Rattle.nf_laws.specs.Shares.{StopsAtNew}
use Rattle.packet_feed.specs.Arrivals.{Arrival, packet_of}
use Rattle.packet_feed.specs.Order.{in_order}
use Rattle.toeplitz_hash.specs.Packets.{hash_of}
use Rattle.rss_table.specs.Tables.{table_index}
use Rattle.shard_core.specs.declared.collected.Stop.{Stop}
use Rattle.stream_run.specs.Runs.{Run, Turn}
use Rattle.stream_run.specs.Rules.{queue_by, shard_rule, IsRunBy}
use Rattle.sharded_run.specs.Sharded.{IsStopBehind, AreBefore}

-- a packet's worker is one of so many, and each index that the packet is given is that worker modulo
-- their number
pub record IsOwnTurn (workers : ℕ) (t : Turn) : Type 0 where
  pub below : t.worker < workers
  pub own : All (λ i. i % workers ≡ t.worker) t.choices

-- so it is of each packet of a run
abbrev pub TurnsAreOwn : Type 0
TurnsAreOwn = (f : Function) (keys : Keys) (workers : ℕ) (card : Card) (given : List Arrival) (r : Run) → 0 < workers →
    IsRunBy (shard_rule keys workers) f card given r → All (IsOwnTurn workers) r.turns

-- Where a run stops: the handler of the packet comes to a `new` of the chain with no key taken, where
-- no index of its queue's share is vacant.
pub record StopsWhereNoneIsLeft (f : Function) (keys : Keys) (workers : ℕ) (r : Run) (stop : Stop) (s : IsStopBehind f keys workers r stop) : Type 0 where
  pub block : Block
  pub handler : handler_at f (door_of stop.packet.id.port s.fields) ≡ Some block
  pub stops :
      StopsAtNew s.share (input f stop.packet.time s.fields) block
      (start_context f s.state stop.packet.time s.choices) stop.chain []

-- so each run stops
abbrev pub SharesAreFull : Type 0
SharesAreFull = (f : Function) (keys : Keys) (workers : ℕ) (r : Run) (stop : Stop) →
    (s : IsStopBehind f keys workers r stop) → StopsWhereNoneIsLeft f keys workers r stop s

-- the queue of a packet is the low bits of its hash that index the table, modulo the number of workers, and 0
-- where it is skipped and has none
abbrev pub QueuesAreOfHashes : Type 0
QueuesAreOfHashes = (keys : Keys) (workers : ℕ) (packet : Packet) →
    ((hash : ℕ) → hash_of keys packet ≡ Some hash → queue_by keys workers packet ≡ table_index keys.table hash % workers)
    × (hash_of keys packet ≡ None → queue_by keys workers packet ≡ 0)

-- where packets are those before a packet, they are as many of the first as they are, and it is the next
abbrev pub NextIsNext : Type 0
NextIsNext = (all given : List Arrival) (packet : Packet) → AreBefore (Some all) given packet →
    (take (length given) (in_order all) ≡ given)
    × (slice_get (map packet_of (in_order all)) (length given) ≡ Some packet)
