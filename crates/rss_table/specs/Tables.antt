-- The indirection table (Microsoft RSS): for each table index a queue.
use Rattle.std.specs.Prelude.{◌≡◌, ℕ, ◌%◌, ◌^◌, ◌<◌, List, length, map, Option, Some, None, slice_index, All}
use Rattle.std.specs.List.{range_with_len}
use Rattle.nf_base.specs.declared.card.TableSize.{TableSize}
use Rattle.nf_base.specs.Cards.{index_bits, entries}
use Rattle.nf_base.specs.declared.keys.Keys.{Keys}
use Rattle.nf_base.specs.declared.packet.Packet.{Packet}
use Rattle.toeplitz_hash.specs.Packets.{hash_of}

-- the low bits of a hash, 7 or 9
abbrev pub table_index : TableSize → ℕ → ℕ
table_index size hash = hash % 2 ^ index_bits size

-- Entry i is queue i modulo the number of workers.
unfoldable pub even_table : TableSize → ℕ → List ℕ
even_table size workers = map (λ i. i % workers) (range_with_len 0 (entries size))

-- The queue of a packet with this hash, or of one that is skipped: the entries are gone round.
abbrev pub queue_at : List ℕ → Option ℕ → ℕ
queue_at table (Some hash) = slice_index table (hash % length table)
queue_at table None = 0

-- the queue of a packet
abbrev pub queue_of : List ℕ → Keys → Packet → ℕ
queue_of table keys packet = queue_at table (hash_of keys packet)

-- a table of some of the queues below a number
pub record AllBelow (count : ℕ) (table : List ℕ) : Type 0 where
  pub some : 0 < count
  pub each : All (λ queue. queue < count) table

-- a table for a number of workers, entry by entry
pub record GoesRound (size : TableSize) (workers : ℕ) : Type 0 where
  pub long : length (even_table size workers) ≡ entries size
  pub entry : (i : ℕ) → i < entries size → slice_index (even_table size workers) i ≡ i % workers
  pub of_skipped : queue_at (even_table size workers) None ≡ 0
  pub of_hash : (hash : ℕ) →
      queue_at (even_table size workers) (Some hash) ≡ table_index size hash % workers

-- the table of each size and number of workers goes round
abbrev pub EntriesGoRound : Type 0
EntriesGoRound = (size : TableSize) (workers : ℕ) → GoesRound size workers
