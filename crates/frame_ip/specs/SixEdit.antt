-- The edits of a packet, written into its IPv6 frame: the words, and the checksum of TCP or UDP brought up
-- to date by what changed. IPv6 has no checksum of its own. The edits of IPv4 addresses are left out.
use Rattle.std.specs.Prelude.{ℕ, ◌+◌, ◌*◌, ◌/◌, ◌%◌, ◌^◌, Bool, List, [], ◌∷◌, ◌++◌, nat_eq, slice_index, if◌then◌else◌, Option, Some, None}
use Rattle.nf_base.specs.declared.done.Edits.{Edits}
use Rattle.frame_ip.specs.Bytes.{number_at}
use Rattle.frame_ip.specs.Writes.{Write, put_all, macs, ports}
use Rattle.frame_ip.specs.Checksum.{updated, udp_checksum}

-- the words of an IP address: 128 bits
abbrev pub address_words : ℕ → Option ℕ → List Write
address_words at None = []
address_words at (Some v) =
    record { at = at; word = v / 2 ^ 112 % 65536 }
    ∷ record { at = at + 2; word = v / 2 ^ 96 % 65536 }
    ∷ record { at = at + 4; word = v / 2 ^ 80 % 65536 }
    ∷ record { at = at + 6; word = v / 2 ^ 64 % 65536 }
    ∷ record { at = at + 8; word = v / 2 ^ 48 % 65536 }
    ∷ record { at = at + 10; word = v / 2 ^ 32 % 65536 }
    ∷ record { at = at + 12; word = v / 2 ^ 16 % 65536 }
    ∷ record { at = at + 14; word = v % 65536 }
    ∷ []

-- the word of a hop limit, 8 bits, which has the next header in its higher byte
abbrev pub hop_words : ℕ → Option ℕ → List Write
hop_words proto None = []
hop_words proto (Some v) = record { at = 20; word = proto * 256 + v % 256 } ∷ []

-- the words of the hop limit and of all IP addresses that are written
abbrev pub hops : Edits → List ℕ → List Write
hops edits frame = hop_words (slice_index frame 20) edits.ttl

abbrev pub addresses : Edits → List Write
addresses edits = address_words 22 edits.src_ip6 ++ address_words 38 edits.dst_ip6

-- the next header is UDP
abbrev pub is_udp : List ℕ → Bool
is_udp frame = nat_eq (slice_index frame 20) 17

-- where the checksum of TCP or UDP stands
abbrev pub checksum_at : List ℕ → ℕ
checksum_at frame = if is_udp frame then 60 else 70

-- IP addresses and ports count in the checksum of TCP or UDP
abbrev pub transport_checksum : Edits → List ℕ → ℕ
transport_checksum edits frame =
    let new : ℕ = updated frame (checksum_at frame) (addresses edits ++ ports edits 54) in
    if is_udp frame then udp_checksum (number_at frame (checksum_at frame) 2) new else new

-- the words that are written, in the order in which they stand
abbrev pub writes : Edits → List ℕ → List Write
writes edits frame =
    macs edits ++ (hops edits frame ++ (addresses edits ++ (ports edits 54
    ++ (record { at = checksum_at frame; word = transport_checksum edits frame } ∷ []))))

-- the frame with the edits in it
unfoldable pub edited : Edits → List ℕ → List ℕ
edited edits frame = put_all (writes edits frame) frame
