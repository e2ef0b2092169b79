-- The checksum of TCP or UDP in an IPv6 frame (RFC 8200 section 8.1).
use Rattle.std.specs.Prelude.{◌≡◌, ◌≢◌, ℕ, ◌+◌, ◌≤◌, ◌++◌, true, List, length, slice_index, if◌then◌else◌}
use Rattle.nf_base.specs.declared.done.Edits.{Edits}
use Rattle.frame_ip.specs.Bytes.{number_at}
use Rattle.frame_ip.specs.Writes.{ports}
use Rattle.frame_ip.specs.Checksum.{fold}
use Rattle.frame_ip.specs.SixEdit.{addresses, is_udp, checksum_at, transport_checksum}
use Rattle.frame_ip.specs.Sums.{KeepsRight, word_sum, part}

-- the bytes of a datagram of UDP, which says itself how many it has, or of a segment of TCP, which is
-- IPv6's payload
abbrev pub segment_length : List ℕ → ℕ
segment_length frame = if is_udp frame then number_at frame 58 2 else number_at frame 18 2

-- the sum of the words of the pseudo header, which are both addresses, that length and the next header,
-- and of the segment's own words
abbrev pub segment_sum : List ℕ → ℕ
segment_sum frame =
    (word_sum (part 22 32 frame) + (slice_index frame 20 + segment_length frame)) + word_sum (part 54 (segment_length frame) frame)

-- the checksum is not the UDP checksum of 0, which stands for none
abbrev pub HasChecksum : List ℕ → Type 0
HasChecksum frame = is_udp frame ≡ true → number_at frame (checksum_at frame) 2 ≢ 0

-- The checksum of TCP or UDP is right: the segment holds it and was captured whole, it isn't the 0 of a
-- datagram that has none, and the sum is right.
pub record IsTransportRight (frame : List ℕ) : Type 0 where
  pub holds : checksum_at frame + 2 ≤ 54 + segment_length frame
  pub whole : 54 + segment_length frame ≤ length frame
  pub some : HasChecksum frame
  pub right : fold (segment_sum frame) ≡ 65535

-- A sum that was right is right after edits: each of which the checksum, the words of addresses and those
-- of ports are a part.
abbrev pub TransportKeepsRight : Edits → List ℕ → Type 0
TransportKeepsRight edits frame =
    KeepsRight frame (addresses edits ++ ports edits 54) (number_at frame (checksum_at frame) 2) (transport_checksum edits frame)
