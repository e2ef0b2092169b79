-- What of a packet is hashed, and under which key.
use Rattle.std.specs.Prelude.{ℕ, ◌+◌, List, [], ◌++◌, Option, option_map, slice_index_or}
use Rattle.std.specs.Int.{w16, w32, w128, to_be_bytes}
use Rattle.nf_base.specs.declared.keys.Keys.{Keys}
use Rattle.nf_base.specs.declared.packet.Addresses.{Addresses}
use Rattle.nf_base.specs.declared.packet.Addresses.TheVariants as addresses
use Rattle.nf_base.specs.declared.packet.Door.{Door}
use Rattle.nf_base.specs.declared.packet.Family.{Family}
use Rattle.nf_base.specs.declared.packet.Family.TheVariants as family
use Rattle.nf_base.specs.declared.packet.Fields.{Fields}
use Rattle.nf_base.specs.declared.packet.Packet.{Packet}
use Rattle.nf_base.specs.Families.{door_of}
use Rattle.toeplitz_hash.specs.Toeplitz.{toeplitz_of}

-- how many bits an address has
abbrev pub address_bits : Family → ℕ
address_bits family.Four = 32
address_bits family.Six = 128

-- how many bits of a key are met by an input: as many as that has, and 31 more
abbrev pub positions : Family → ℕ
positions family.Four = 127
positions family.Six = 319

-- both addresses and both ports, in network order
abbrev pub input_by : Addresses → ℕ → ℕ → List ℕ
input_by (addresses.Four src dst) x y =
    to_be_bytes w32 src ++ to_be_bytes w32 dst ++ to_be_bytes w16 x ++ to_be_bytes w16 y
input_by (addresses.Six src dst) x y =
    to_be_bytes w128 src ++ to_be_bytes w128 dst ++ to_be_bytes w16 x ++ to_be_bytes w16 y

-- source address, destination address, source port, destination port, in network order
abbrev pub input_bytes : Fields → List ℕ
input_bytes fields = input_by fields.addresses fields.src_port fields.dst_port

-- the key of a port
abbrev pub key_at : Keys → ℕ → List ℕ
key_at keys port = slice_index_or keys.ports port []

-- the hash of fields that came in at a door, under its port's key
abbrev pub hash_by : Keys → Door → Fields → ℕ
hash_by keys door fields = toeplitz_of (key_at keys door.port) (input_bytes fields)

-- a packet's hash under the key of its port; none of one that is skipped
abbrev pub hash_of : Keys → Packet → Option ℕ
hash_of keys packet =
    option_map (λ (fields : Fields). hash_by keys (door_of packet.id.port fields) fields) packet.fields
