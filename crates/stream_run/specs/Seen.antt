-- Packets whose fields stand in their frames.
use Rattle.std.specs.Prelude.{ℕ, Option, Some, None, option_map}
use Rattle.nf_base.specs.declared.packet.PacketId.{PacketId}
use Rattle.nf_base.specs.declared.packet.Fields.{Fields}
use Rattle.nf_base.specs.declared.packet.Packet.{Packet}
use Rattle.frame_ip.specs.Frame.{Seen}
use Rattle.packet_feed.specs.Arrivals.{fields_seen}

-- the packet whose frame is seen so, and a skipped one where none is
abbrev pub packet_seen : PacketId → ℕ → Option Seen → Packet
packet_seen id time seen = record { id = id; time = time; fields = option_map fields_seen seen }

-- fields that were read, and else those of the frame that is seen
abbrev pub read_or_seen : Option Fields → Option Seen → Option Fields
read_or_seen (Some fields) seen = Some fields
read_or_seen None seen = option_map fields_seen seen
