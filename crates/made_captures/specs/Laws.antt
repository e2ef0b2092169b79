-- Laws of made captures: read again, they are the traffic that they were made of.
use Rattle.std.specs.Prelude.{◌≡◌, ℕ, Bool, ◌≤◌, ◌<◌, ◌^◌, List, map, length, Some, None}
use Rattle.nf_base.specs.declared.packet.Packet.{Packet}
use Rattle.nf_files.specs.Told.{Told}
use Rattle.pcap_file.specs.Capture.{capture_of}
use Rattle.pcap_file.specs.Spelled.{written_form}
use Rattle.packet_feed.specs.Arrivals.{Arrival}
use Rattle.packet_feed.specs.Order.{in_order}
use Rattle.packet_feed.specs.Told.{packets_of}
use Rattle.gen_traffic.specs.Traffic.{Recipe, traffic}
use Rattle.made_captures.specs.Records.{record_of, at_port, made_bytes}
use Rattle.made_captures.specs.Captures.{captures_of, numbers_of}
use Rattle.made_captures.specs.Told.{with_made}

-- a packet with its frame, all of whose bytes were captured
abbrev pub arrival_of : Packet × List ℕ → Arrival
arrival_of sent = record { packet = sent.0; original = length sent.1; frame = sent.1 }

-- the packets of traffic, in the order in which they are made
abbrev pub arrivals_of : Recipe → List Arrival
arrivals_of r = map arrival_of (traffic r)

-- a recipe as one can be written down: fewer than 2^32 packets, at one port or more
pub record IsRecipe (r : Recipe) : Type 0 where
  pub few : r.count < 2 ^ 32
  pub some_port : 1 ≤ r.ports
  pub ports_fit : r.ports ≤ 65536

-- Each is a whole capture of the packets that come in at its port.
abbrev pub CapturesAreWhole : Type 0
CapturesAreWhole = (r : Recipe) (port : ℕ) → IsRecipe r →
    capture_of (made_bytes r port)
    ≡ Some (record { form = written_form; records = map record_of (at_port port (traffic r)); torn = None })

-- Beside whatever files: the packets of the captures are all of the traffic, with their frames, and in
-- capture order they come as they are made, whichever ports have a handler for IPv6.
pub record IsTraffic (six : List Bool) (r : Recipe) (mark : List ℕ) (told : Told) : Type 0 where
  pub all : List Arrival
  pub packets : packets_of six (numbers_of r.ports) (with_made (captures_of r) mark told) ≡ Some all
  pub order : in_order all ≡ arrivals_of r

abbrev pub CapturesAreTraffic : Type 0
CapturesAreTraffic = (six : List Bool) (r : Recipe) (mark : List ℕ) (told : Told) → IsRecipe r → IsTraffic six r mark told
