-- Which frames of IPv4 are handled, and what their fields are: Ethernet II, IPv4 (RFC 791 section 3.1),
-- UDP (RFC 768) and TCP (RFC 9293 section 3.1). All numbers stand in network order.
use Rattle.std.specs.Prelude.{ℕ, ◌+◌, ◌*◌, ◌/◌, ◌%◌, Bool, ◌&&◌, ◌||◌, List, length, nat_eq, nat_le, slice_index}
use Rattle.nf_base.specs.declared.packet.Fields.{Fields}
use Rattle.nf_base.specs.declared.packet.Addresses.TheVariants as addresses
use Rattle.frame_ip.specs.Bytes.{number_at}

-- The lower half of byte 14 counts the IP header's words of 4 bytes.
abbrev pub header_words : List ℕ → ℕ
header_words frame = slice_index frame 14 % 16

-- where the TCP or UDP header begins
abbrev pub transport_at : List ℕ → ℕ
transport_at frame = 14 + 4 * header_words frame

-- The first 20 bytes of TCP's header or the 8 of UDP's are captured.
abbrev pub has_transport : List ℕ → Bool
has_transport frame =
    (nat_eq (slice_index frame 23) 6 && nat_le (transport_at frame + 20) (length frame))
    || (nat_eq (slice_index frame 23) 17 && nat_le (transport_at frame + 8) (length frame))

-- IPv4 in Ethernet, no fragment, with a TCP or UDP header. Of the 16 bits of flags and fragment offset
-- the low 14 are the flag "more fragments" and the offset.
abbrev pub is_four : List ℕ → Bool
is_four frame =
    nat_eq (number_at frame 12 2) 0x0800
    && (nat_eq (slice_index frame 14 / 16) 4
    && (nat_le 5 (header_words frame)
    && (nat_eq (number_at frame 20 2 % 0x4000) 0
    && has_transport frame)))

-- the fields of such a frame whose original length is known
abbrev pub fields_at : List ℕ → ℕ → Fields
fields_at frame original = record {
  length = original;
  src_mac = number_at frame 6 6;
  dst_mac = number_at frame 0 6;
  addresses = addresses.Four (number_at frame 26 4) (number_at frame 30 4);
  proto = slice_index frame 23;
  ttl = slice_index frame 22;
  src_port = number_at frame (transport_at frame) 2;
  dst_port = number_at frame (transport_at frame + 2) 2;
}
