-- A datagram of UDP without data, in IPv4 in Ethernet II: 42 bytes (RFC 791 section 3.1, RFC 768). All
-- numbers stand in network order.
use Rattle.std.specs.Prelude.{ℕ, ◌-◌, List, [], ◌∷◌, ◌++◌}
use Rattle.std.specs.Int.{w16, w32, to_be_bytes}
use Rattle.nf_base.specs.declared.packet.Fields.{Fields}
use Rattle.nf_base.specs.declared.packet.Addresses.TheVariants as addresses
use Rattle.frame_ip.specs.Checksum.{fold}
use Rattle.frame_ip.specs.Sums.{word_sum}
use Rattle.gen_traffic.specs.declared.end.End.{End}

-- to 02:00:00:00:00:02 from 02:00:00:00:00:01, and the type of IPv4
abbrev pub ethernet_header : List ℕ
ethernet_header = 2 ∷ 0 ∷ 0 ∷ 0 ∷ 0 ∷ 2 ∷ 2 ∷ 0 ∷ 0 ∷ 0 ∷ 0 ∷ 1 ∷ 8 ∷ 0 ∷ []

-- an IP header of 20 bytes with a checksum: 28 bytes in all, no fragment, TTL 64, UDP
abbrev pub ip_header : ℕ → End → End → List ℕ
ip_header checksum from to =
    (0x45 ∷ 0 ∷ 0 ∷ 28 ∷ 0 ∷ 0 ∷ 0 ∷ 0 ∷ 64 ∷ 17 ∷ [])
    ++ (to_be_bytes w16 checksum ++ (to_be_bytes w32 from.address ++ to_be_bytes w32 to.address))

-- the complement of the folded sum of the header's words, with a checksum of 0
abbrev pub header_checksum : End → End → ℕ
header_checksum from to = 65535 - fold (word_sum (ip_header 0 from to))

-- 8 bytes in all, and no checksum
abbrev pub udp_header : End → End → List ℕ
udp_header from to = to_be_bytes w16 from.port ++ (to_be_bytes w16 to.port ++ (0 ∷ 8 ∷ 0 ∷ 0 ∷ []))

-- the frame of a datagram from one end to another
abbrev pub frame_between : End → End → List ℕ
frame_between from to = ethernet_header ++ (ip_header (header_checksum from to) from to ++ udp_header from to)

-- what its fields are
abbrev pub fields_between : End → End → Fields
fields_between from to = record {
  length = 42;
  src_mac = 0x020000000001;
  dst_mac = 0x020000000002;
  addresses = addresses.Four from.address to.address;
  proto = 17;
  ttl = 64;
  src_port = from.port;
  dst_port = to.port;
}
