-- Which frames of IPv6 are handled, and what their fields are: Ethernet II, IPv6 (RFC 8200 section 3),
-- UDP (RFC 768) and TCP (RFC 9293 section 3.1). All numbers stand in network order.
use Rattle.std.specs.Prelude.{ℕ, ◌/◌, Bool, ◌&&◌, ◌||◌, List, length, nat_eq, nat_le, slice_index}
use Rattle.nf_base.specs.declared.packet.Fields.{Fields}
use Rattle.nf_base.specs.declared.packet.Addresses.TheVariants as addresses
use Rattle.frame_ip.specs.Bytes.{number_at}

-- Behind the 40 bytes of the header the first 20 bytes of TCP's header or the 8 of UDP's are captured.
abbrev pub has_transport : List ℕ → Bool
has_transport frame =
    (nat_eq (slice_index frame 20) 6 && nat_le 74 (length frame))
    || (nat_eq (slice_index frame 20) 17 && nat_le 62 (length frame))

-- IPv6 in Ethernet, with a TCP or UDP header right behind its own: a frame with another next header, that
-- of an extension among them, is skipped.
abbrev pub is_six : List ℕ → Bool
is_six frame =
    nat_eq (number_at frame 12 2) 0x86dd
    && (nat_eq (slice_index frame 14 / 16) 6
    && has_transport frame)

-- the fields of such a frame whose original length is known; the TTL is the hop limit, and the protocol
-- the next header
abbrev pub fields_at : List ℕ → ℕ → Fields
fields_at frame original = record {
  length = original;
  src_mac = number_at frame 6 6;
  dst_mac = number_at frame 0 6;
  addresses = addresses.Six (number_at frame 22 16) (number_at frame 38 16);
  proto = slice_index frame 20;
  ttl = slice_index frame 21;
  src_port = number_at frame 54 2;
  dst_port = number_at frame 56 2;
}
