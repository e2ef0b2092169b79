-- The packets of captures, one capture a port.
use Rattle.std.specs.Prelude.{ℕ, ◌+◌, max, Bool, List, [], ◌∷◌, if◌then◌else◌, Option, None}
use Rattle.nf_base.specs.declared.packet.Fields.{Fields}
use Rattle.nf_base.specs.declared.packet.Packet.{Packet}
use Rattle.nf_base.specs.Doors.{served_fields}
use Rattle.frame_ip.specs.Frame.{Seen, fields_at, fields_in}
use Rattle.pcapng_file.specs.Heard.{Heard, Stream as Contents}

-- a packet that came in, how many bytes its frame had, and those of them that were captured
pub record Arrival : Type 0 where
  pub packet : Packet
  pub original : ℕ
  pub frame : List ℕ

abbrev pub packet_of : Arrival → Packet
packet_of arrival = arrival.packet

-- the fields of captured bytes: none where these are no Ethernet frame
abbrev pub fields_captured : Bool → List ℕ → ℕ → Option Fields
fields_captured is_ethernet frame original = if is_ethernet then fields_in frame original else None

-- the fields of a handled frame as it is seen
abbrev pub fields_seen : Seen → Fields
fields_seen seen = fields_at seen.frame seen.original

-- the packet of captured bytes that came in at a port, which has a handler for IPv6 or has none: its
-- number there, its time, and the fields of the frame, which are none where it is skipped, where it is
-- no Ethernet frame, and where it is an IPv6 frame and the port has no handler for these
unfoldable pub arrival_of : Bool → ℕ → ℕ → ℕ → Bool → ℕ → List ℕ → Arrival
arrival_of six port seq time is_ethernet original frame = record {
  packet = record {
    id = record { port = port; seq = seq };
    time = time;
    fields = served_fields six (fields_captured is_ethernet frame original);
  };
  original = original;
  frame = frame;
}

-- The packets of a port's capture, numbered from a number on. Each came at the latest time of its
-- capture up to it.
abbrev pub arrivals_from : Bool → ℕ → ℕ → ℕ → List Heard → List Arrival
arrivals_from six port seq latest [] = []
arrivals_from six port seq latest (p ∷ ps) =
    arrival_of six port seq (max latest p.time) p.is_ethernet p.original p.frame
    ∷ arrivals_from six port (seq + 1) (max latest p.time) ps

-- the packets of all that a port's capture holds
abbrev pub arrivals_in : Bool → ℕ → Contents → List Arrival
arrivals_in six port c = arrivals_from six port 0 0 c.heard
