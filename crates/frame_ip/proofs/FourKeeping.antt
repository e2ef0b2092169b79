-- The checksums of an IPv4 frame keep sums right.
use Rattle.std.proofs.Common.{◌≡◌, ℕ, ◌+◌, List, ◌++◌, slice_index, Option, Some, None, arith}
use Rattle.nf_base.specs.declared.done.Edits.{Edits}
use Rattle.frame_ip.specs.Bytes.{number_at}
use Rattle.frame_ip.specs.FourFrame.{transport_at}
use Rattle.frame_ip.specs.Writes.{ports}
use Rattle.frame_ip.specs.Checksum.{updated, udp_checksum}
use Rattle.frame_ip.specs.FourEdit.{address_words, ttl_words, ttl, addresses, is_udp, checksum_at, transport_checksum}
use Rattle.frame_ip.specs.FourSums.{HasChecksum, IpKeepsRight, TransportKeepsRight}
use Rattle.frame_ip.proofs.Writing.{by_udp, by_tcp}
use Rattle.frame_ip.proofs.Ones.{AreWords, AreBytes, keeps, word_small, words_more, ports_are, by_protocol}

address_is : (frame : List ℕ) (at : ℕ) (value : Option ℕ) → AreBytes frame → AreWords frame (address_words at value)
address_is frame at None bytes = tt
address_is frame at (Some v) bytes = ((word_small frame at bytes, omega arith), ((word_small frame (at + 2) bytes, omega arith), tt))

ttl_is : (frame : List ℕ) (value : Option ℕ) → AreBytes frame → AreWords frame (ttl_words (slice_index frame 23) value)
ttl_is frame None bytes = tt
ttl_is frame (Some v) bytes = ((word_small frame 22 bytes, omega (arith, bytes 23)), tt)

addresses_are : (e : Edits) (frame : List ℕ) → AreBytes frame → AreWords frame (addresses e)
addresses_are e frame bytes = words_more frame (address_words 26 e.src_ip) (address_words 30 e.dst_ip) (address_is frame 26 e.src_ip bytes) (address_is frame 30 e.dst_ip bytes)

pub ip_keeps : (e : Edits) (frame : List ℕ) → AreBytes frame → IpKeepsRight e frame
ip_keeps e frame bytes =
    keeps frame 24 (ttl e frame ++ addresses e)
    (words_more frame (ttl e frame) (addresses e) (ttl_is frame e.ttl bytes) (addresses_are e frame bytes))
    (word_small frame 24 bytes)

pub transport_keeps : (e : Edits) (frame : List ℕ) → AreBytes frame → HasChecksum frame → TransportKeepsRight e frame
transport_keeps e frame bytes some =
    let s = transport_at frame in
    let ws = addresses e ++ ports e s in
    let at = checksum_at frame in
    by_protocol frame ws (number_at frame at 2) (updated frame at ws) (is_udp frame) some
    (keeps frame at ws (words_more frame (addresses e) (ports e s) (addresses_are e frame bytes) (ports_are e frame s bytes)) (word_small frame at bytes))

-- ---- by the protocol

pub with_udp : (e : Edits) (f : List ℕ) → slice_index f 23 ≡ 17 → transport_checksum e f ≡ udp_checksum (number_at f (checksum_at f) 2) (updated f (checksum_at f) (addresses e ++ ports e (transport_at f)))
with_udp e f is = by_udp (slice_index f 23) (number_at f (checksum_at f) 2) (updated f (checksum_at f) (addresses e ++ ports e (transport_at f))) is

pub with_tcp : (e : Edits) (f : List ℕ) → (slice_index f 23 ≡ 17 → ⊥) → transport_checksum e f ≡ updated f (checksum_at f) (addresses e ++ ports e (transport_at f))
with_tcp e f is = by_tcp (slice_index f 23) (number_at f (checksum_at f) 2) (updated f (checksum_at f) (addresses e ++ ports e (transport_at f))) is
