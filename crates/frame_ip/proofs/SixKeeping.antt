-- The checksum of TCP or UDP in an IPv6 frame keeps sums right.
use Rattle.std.proofs.Common.{◌≡◌, ℕ, ◌+◌, List, ◌++◌, slice_index, Option, Some, None, arith}
use Rattle.nf_base.specs.declared.done.Edits.{Edits}
use Rattle.frame_ip.specs.Bytes.{number_at}
use Rattle.frame_ip.specs.Writes.{ports}
use Rattle.frame_ip.specs.Checksum.{updated, udp_checksum}
use Rattle.frame_ip.specs.SixEdit.{address_words, addresses, is_udp, checksum_at, transport_checksum}
use Rattle.frame_ip.specs.SixSums.{HasChecksum, TransportKeepsRight}
use Rattle.frame_ip.proofs.Writing.{by_udp, by_tcp}
use Rattle.frame_ip.proofs.Ones.{AreWords, AreBytes, keeps, word_small, words_more, ports_are, by_protocol}

address_is : (frame : List ℕ) (at : ℕ) (value : Option ℕ) → AreBytes frame → AreWords frame (address_words at value)
address_is frame at None bytes = tt
address_is frame at (Some v) bytes = (
  (word_small frame at bytes, omega arith),
  (
    (word_small frame (at + 2) bytes, omega arith),
    (
      (word_small frame (at + 4) bytes, omega arith),
      (
        (word_small frame (at + 6) bytes, omega arith),
        (
          (word_small frame (at + 8) bytes, omega arith),
          (
            (word_small frame (at + 10) bytes, omega arith),
            (
              (word_small frame (at + 12) bytes, omega arith),
              ((word_small frame (at + 14) bytes, omega arith), tt),
            ),
          ),
        ),
      ),
    ),
  ),
)

addresses_are : (e : Edits) (frame : List ℕ) → AreBytes frame → AreWords frame (addresses e)
addresses_are e frame bytes = words_more frame (address_words 22 e.src_ip6) (address_words 38 e.dst_ip6) (address_is frame 22 e.src_ip6 bytes) (address_is frame 38 e.dst_ip6 bytes)

pub transport_keeps : (e : Edits) (frame : List ℕ) → AreBytes frame → HasChecksum frame → TransportKeepsRight e frame
transport_keeps e frame bytes some =
    let ws = addresses e ++ ports e 54 in
    let at = checksum_at frame in
    by_protocol frame ws (number_at frame at 2) (updated frame at ws) (is_udp frame) some
    (keeps frame at ws (words_more frame (addresses e) (ports e 54) (addresses_are e frame bytes) (ports_are e frame 54 bytes)) (word_small frame at bytes))

-- ---- by the protocol

pub with_udp : (e : Edits) (f : List ℕ) → slice_index f 20 ≡ 17 → transport_checksum e f ≡ udp_checksum (number_at f (checksum_at f) 2) (updated f (checksum_at f) (addresses e ++ ports e 54))
with_udp e f is = by_udp (slice_index f 20) (number_at f (checksum_at f) 2) (updated f (checksum_at f) (addresses e ++ ports e 54)) is

pub with_tcp : (e : Edits) (f : List ℕ) → (slice_index f 20 ≡ 17 → ⊥) → transport_checksum e f ≡ updated f (checksum_at f) (addresses e ++ ports e 54)
with_tcp e f is = by_tcp (slice_index f 20) (number_at f (checksum_at f) 2) (updated f (checksum_at f) (addresses e ++ ports e 54)) is
