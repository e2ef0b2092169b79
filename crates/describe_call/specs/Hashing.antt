-- The line of a hash: the hash of a packet between two ends, its table index, and its queue.
use Rattle.std.specs.Prelude.{ℕ, List, ◌++◌, Some, codes, decimal, unwrap_or}
use Rattle.std.specs.Int.{w32, to_be_bytes}
use Rattle.hex.specs.Hex.{encode_lower}
use Rattle.nf_base.specs.declared.packet.Fields.{Fields}
use Rattle.nf_base.specs.declared.card.TableSize.{TableSize}
use Rattle.toeplitz_hash.specs.DefaultKey.{default_key}
use Rattle.toeplitz_hash.specs.Toeplitz.{toeplitz_of}
use Rattle.toeplitz_hash.specs.Packets.{input_bytes}
use Rattle.rss_table.specs.Tables.{table_index, even_table, queue_at}
use Rattle.command_words.specs.declared.endpoint.Ends.{Ends}
use Rattle.command_words.specs.Commands.{Hash}

-- the fields of a packet between two ends; the others are not hashed
abbrev pub fields_between : Ends → Fields
fields_between ends = record {
  length = 0;
  src_mac = 0;
  dst_mac = 0;
  addresses = ends.addresses;
  proto = 0;
  ttl = 0;
  src_port = ends.source_port;
  dst_port = ends.destination_port;
}

-- the given key, or the default one of the size that is asked for
abbrev pub key_of : Hash → List ℕ
key_of c = unwrap_or c.key (default_key c.card.key)

-- the hash under this key
abbrev pub hash_value : Hash → ℕ
hash_value c = toeplitz_of (key_of c) (input_bytes (fields_between c.ends))

-- 8 hexadecimal digits, the table index, and the queue of so many workers' queues
abbrev pub line_of : TableSize → ℕ → ℕ → List ℕ
line_of size hash workers =
    encode_lower (to_be_bytes w32 hash) ++ codes " " ++ decimal (table_index size hash)
    ++ codes " " ++ decimal (queue_at (even_table size workers) (Some hash)) ++ codes "\n"

-- what is printed of a hash
abbrev pub hash_line : Hash → List ℕ
hash_line c = line_of c.card.table (hash_value c) c.workers
