-- The queues of packets under keys by which packets that meet have equal hashes.
use Rattle.std.specs.Prelude.{◌≡◌, ℕ, List, Contains}
use Rattle.nf_base.specs.declared.keys.Keys.{Keys}
use Rattle.nf_base.specs.declared.packet.Packet.{Packet}
use Rattle.nf_base.specs.Hashed.{HasInput}
use Rattle.toeplitz_hash.specs.Meeting.{HashAlikeWhereTheyMeet}
use Rattle.rss_table.specs.Tables.{even_table, queue_of}
use Rattle.shard_machine.specs.Machine.{Setup}
use Rattle.shard_machine.specs.Laws.{OneQueueWhereTheyMeet}

-- packets that meet, in any run over these, have one queue: each has its fields within their widths
abbrev pub KeysGiveOneQueue : Type 0
KeysGiveOneQueue =
    (x : Setup) (keys : Keys) (count : ℕ) (sent : List Packet) →
    HashAlikeWhereTheyMeet x.function keys →
    ((packet : Packet) → x.queue packet ≡ queue_of (even_table keys.table count) keys packet) →
    ((packet : Packet) → Contains sent packet → HasInput packet) →
    OneQueueWhereTheyMeet x sent
