-- The edits of a packet, written into its IPv4 frame: the words, and the two checksums brought up to date
-- by what changed. The edits of IPv6 addresses are left out.
use Rattle.std.specs.Prelude.{ℕ, ◌+◌, ◌*◌, ◌/◌, ◌%◌, Bool, List, [], ◌∷◌, ◌++◌, nat_eq, slice_index, if◌then◌else◌, Option, Some, None}
use Rattle.nf_base.specs.declared.done.Edits.{Edits}
use Rattle.frame_ip.specs.Bytes.{number_at}
use Rattle.frame_ip.specs.FourFrame.{transport_at}
use Rattle.frame_ip.specs.Writes.{Write, put_all, macs, ports}
use Rattle.frame_ip.specs.Checksum.{updated, udp_checksum}

-- the words of an IP address: 32 bits
abbrev pub address_words : ℕ → Option ℕ → List Write
address_words at None = []
address_words at (Some v) = record { at = at; word = v / 65536 % 65536 } ∷ record { at = at + 2; word = v % 65536 } ∷ []

-- the word of a TTL, 8 bits, which has the protocol in its lower byte
abbrev pub ttl_words : ℕ → Option ℕ → List Write
ttl_words proto None = []
ttl_words proto (Some v) = record { at = 22; word = v % 256 * 256 + proto } ∷ []

-- the words of the TTL and of all IP addresses that are written
abbrev pub ttl : Edits → List ℕ → List Write
ttl edits frame = ttl_words (slice_index frame 23) edits.ttl

abbrev pub addresses : Edits → List Write
addresses edits = address_words 26 edits.src_ip ++ address_words 30 edits.dst_ip

-- the protocol is UDP
abbrev pub is_udp : List ℕ → Bool
is_udp frame = nat_eq (slice_index frame 23) 17

-- where the checksum of TCP or UDP stands
abbrev pub checksum_at : List ℕ → ℕ
checksum_at frame = if is_udp frame then transport_at frame + 6 else transport_at frame + 16

-- IP addresses and the TTL count in the IP header's checksum
abbrev pub ip_checksum : Edits → List ℕ → ℕ
ip_checksum edits frame = updated frame 24 (ttl edits frame ++ addresses edits)

-- IP addresses and ports count in the checksum of TCP or UDP
abbrev pub transport_checksum : Edits → List ℕ → ℕ
transport_checksum edits frame =
    let new : ℕ = updated frame (checksum_at frame) (addresses edits ++ ports edits (transport_at frame)) in
    if is_udp frame then udp_checksum (number_at frame (checksum_at frame) 2) new else new

-- the words that are written, in the order in which they stand
abbrev pub writes : Edits → List ℕ → List Write
writes edits frame =
    macs edits ++ (ttl edits frame ++ (record { at = 24; word = ip_checksum edits frame } ∷ (addresses edits ++ (ports edits (transport_at frame)
    ++ (record { at = checksum_at frame; word = transport_checksum edits frame } ∷ [])))))

-- the frame with the edits in it
unfoldable pub edited : Edits → List ℕ → List ℕ
edited edits frame = put_all (writes edits frame) frame
