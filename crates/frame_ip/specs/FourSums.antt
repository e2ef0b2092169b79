-- The checksums of an IPv4 frame: the IP header's, and that of TCP or UDP.
use Rattle.std.specs.Prelude.{◌≡◌, ◌≢◌, ℕ, ◌+◌, ◌-◌, ◌*◌, ◌≤◌, ◌++◌, true, List, length, slice_index, if◌then◌else◌}
use Rattle.nf_base.specs.declared.done.Edits.{Edits}
use Rattle.frame_ip.specs.Bytes.{number_at}
use Rattle.frame_ip.specs.FourFrame.{header_words, transport_at}
use Rattle.frame_ip.specs.Writes.{ports}
use Rattle.frame_ip.specs.Checksum.{fold}
use Rattle.frame_ip.specs.FourEdit.{ttl, addresses, is_udp, checksum_at, ip_checksum, transport_checksum}
use Rattle.frame_ip.specs.Sums.{KeepsRight, word_sum, part}

-- the IP header's checksum is right (RFC 791 section 3.1)
abbrev pub IsIpRight : List ℕ → Type 0
IsIpRight frame = fold (word_sum (part 14 (4 * header_words frame) frame)) ≡ 65535

-- the bytes of a datagram of UDP, which says itself how many it has (RFC 768), or of a segment of TCP,
-- which is what IP's total length leaves behind the IP header (RFC 9293 section 3.1)
abbrev pub segment_length : List ℕ → ℕ
segment_length frame = if is_udp frame then number_at frame (transport_at frame + 4) 2 else number_at frame 16 2 - 4 * header_words frame

-- the sum of the words of the pseudo header, which are both addresses, the protocol and that length, and
-- of the segment's own words
abbrev pub segment_sum : List ℕ → ℕ
segment_sum frame =
    (word_sum (part 26 8 frame) + (slice_index frame 23 + segment_length frame)) + word_sum (part (transport_at frame) (segment_length frame) frame)

-- the checksum is not the UDP checksum of 0, which stands for none
abbrev pub HasChecksum : List ℕ → Type 0
HasChecksum frame = is_udp frame ≡ true → number_at frame (checksum_at frame) 2 ≢ 0

-- The checksum of TCP or UDP is right: the segment holds it and was captured whole, it isn't the 0 of a
-- datagram that has none, and the sum is right.
pub record IsTransportRight (frame : List ℕ) : Type 0 where
  pub holds : checksum_at frame + 2 ≤ transport_at frame + segment_length frame
  pub whole : transport_at frame + segment_length frame ≤ length frame
  pub some : HasChecksum frame
  pub right : fold (segment_sum frame) ≡ 65535

-- A sum that was right is right after edits: each of which the IP header's checksum, the TTL's word and the
-- words of addresses are a part,
abbrev pub IpKeepsRight : Edits → List ℕ → Type 0
IpKeepsRight edits frame =
    KeepsRight frame (ttl edits frame ++ addresses edits) (number_at frame 24 2) (ip_checksum edits frame)

-- and each of which that of TCP or UDP, the words of addresses and those of ports are.
abbrev pub TransportKeepsRight : Edits → List ℕ → Type 0
TransportKeepsRight edits frame =
    KeepsRight frame (addresses edits ++ ports edits (transport_at frame)) (number_at frame (checksum_at frame) 2) (transport_checksum edits frame)
