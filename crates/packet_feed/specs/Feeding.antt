-- Captures that are read side by side and given in capture order, up to a number of packets.
use Rattle.std.specs.Prelude.{◌≡◌, ℕ, ◌+◌, ◌^◌, ◌≤◌, ◌<◌, Bool, false, List, [], ◌∷◌, ◌++◌, length, map, slice_get, Option, Some, None, Result, Ok, Err}
use Rattle.std.specs.List.{All}
use Rattle.nf_base.specs.declared.packet.Packet.{Packet}
use Rattle.nf_base.specs.Doors.{six_at, served_fields}
use Rattle.nf_files.specs.Told.{Told}
use Rattle.pcap_file.specs.Record.{greatest_time}
use Rattle.packet_feed.specs.declared.fed.Fed.{Fed}
use Rattle.packet_feed.specs.declared.fed.Fed.TheVariants as next
use Rattle.packet_feed.specs.declared.moved.Moved.{Moved}
use Rattle.packet_feed.specs.declared.moved.Moved.TheVariants as moved
use Rattle.packet_feed.specs.declared.fault.FeedFault.{FeedFault}
use Rattle.packet_feed.specs.declared.fault.FeedFault.TheVariants.{NotCapture, File, Memory}
use Rattle.packet_feed.specs.Arrivals.{Arrival, fields_captured}
use Rattle.packet_feed.specs.Order.{in_order}
use Rattle.packet_feed.specs.Told.{IsTear, IsApart, packets_of}
use Rattle.packet_feed.specs.Streams.{Stream, last_given, tear_in}
use Rattle.packet_feed.specs.Sources.{files_in, sixes_in, counts_in, SourcesStand, AreFrom, AreLesserCaptures, IsLeastBad}

-- The captures, the port of the packet that was given last, how many were given, and how many are
-- asked for at most.
pub record Feeding : Type 0 where
  pub sources : List Stream
  pub shown : ℕ
  pub given : ℕ
  pub most : ℕ

-- it reads the same files, of the same ports, and gives as many packets at most
pub record SameFeed (old new : Feeding) : Type 0 where
  pub files : files_in new.sources ≡ files_in old.sources
  pub six : sixes_in new.sources ≡ sixes_in old.sources
  pub most : new.most ≡ old.most

-- what holds of every value
pub record IsFeeding (sources : List Stream) (given most : ℕ) : Type 0 where
  pub counts : All (λ count. count ≤ given) (counts_in sources)
  pub within : given ≤ most
  pub ports : length sources ≤ 2 ^ 32
  pub apart : IsApart (files_in sources)

-- the captured bytes of the packet that was read last from a capture, if there is one
abbrev pub frame_in : Option Stream → List ℕ
frame_in None = []
frame_in (Some s) = s.frame

-- its length on the wire
abbrev pub original_in : Option Stream → ℕ
original_in None = 0
original_in (Some s) = s.original

-- the captured bytes of the packet that was given last
abbrev pub frame_of : Feeding → List ℕ
frame_of v = frame_in (slice_get v.sources v.shown)

-- its length on the wire
abbrev pub original_of : Feeding → ℕ
original_of v = original_in (slice_get v.sources v.shown)

-- whether the packet that was read last from a capture is an Ethernet frame
abbrev pub is_ethernet_in : Option Stream → Bool
is_ethernet_in None = false
is_ethernet_in (Some s) = s.is_ethernet

-- whether the packet that was given last is one
abbrev pub is_ethernet_of : Feeding → Bool
is_ethernet_of v = is_ethernet_in (slice_get v.sources v.shown)

-- the packet that a port's capture gave last; where the port has none, one that stands for no packet
abbrev pub last_at : ℕ → Option Stream → Packet
last_at port None = record { id = record { port = 0; seq = 0 }; time = 0; fields = None }
last_at port (Some s) = last_given port s

-- the packet that was given last
abbrev pub last_packet : Feeding → Packet
last_packet v = last_at v.shown (slice_get v.sources v.shown)

-- what comes next, where the packet is the one that was given last
abbrev pub fed_by : Feeding → Moved → Fed
fed_by v moved.Packet = next.Packet (last_packet v)
fed_by v moved.End = next.End
fed_by v moved.TooMany = next.TooMany

-- the same of an answer
abbrev pub fed : Feeding → Result Moved FeedFault → Result Fed FeedFault
fed v (Ok to) = Ok (fed_by v to)
fed v (Err fault) = Err fault

-- a packet with what is shown beside it
abbrev pub shown : Packet → Feeding → Arrival
shown packet v = record { packet = packet; original = original_of v; frame = frame_of v }

-- This value stands for the captures' bytes at a start and for the packets that were given since.
pub record StandsFor (start : Told) (given : List Arrival) (v : Feeding) (now : Told) : Type 0 where
  pub count : length given ≡ v.given
  pub sources : SourcesStand start given v.sources now

-- more packets stand in captures than so many, where all is told
abbrev pub HasMore : Option (List Arrival) → ℕ → Type 0
HasMore None count = Unit {0}
HasMore (Some all) count = count < length all

-- these are all packets of captures, in capture order, where all is told
abbrev pub AreAll : Option (List Arrival) → List Arrival → Type 0
AreAll None given = Unit {0}
AreAll (Some all) given = in_order all ≡ given

-- each capture is torn where it was found to be, and there alone
abbrev pub AreTorn : Told → List Stream → Type 0
AreTorn start sources =
    (port : ℕ) (s : Stream) → slice_get sources port ≡ Some s → IsTear (start.rest s.reading.file) (Some (tear_in s.ahead))

-- What an answer says of the packets that were given before.
abbrev pub Feeds : Told → List Arrival → Feeding → Told → Result Fed FeedFault → Type 0
Feeds start given v now (Ok (next.Packet packet)) = StandsFor start (given ++ shown packet v ∷ []) v now
Feeds start given v now (Ok next.End) =
    StandsFor start given v now × AreAll (packets_of (sixes_in v.sources) (files_in v.sources) start) given × AreTorn start v.sources
Feeds start given v now (Ok next.TooMany) =
    StandsFor start given v now × HasMore (packets_of (sixes_in v.sources) (files_in v.sources) start) (length given)
Feeds start given v now (Err fault) = Unit {0}

-- A packet came in at a port, its fields are those of its frame as the port's handlers see them, and
-- none where that is no Ethernet frame, and neither its time nor its frame is more than a record can hold.
pub record IsShown (packet : Packet) (v : Feeding) : Type 0 where
  pub port : packet.id.port ≡ v.shown
  pub inside : v.shown < length v.sources
  pub fields : packet.fields ≡ served_fields (six_at (sixes_in v.sources) v.shown) (fields_captured (is_ethernet_of v) (frame_of v) (original_of v))
  pub time : packet.time ≤ greatest_time
  pub captured : length (frame_of v) ≤ 262144

-- How many packets were given: one more, or no more; too many are left only where all were given that
-- were asked for.
abbrev pub Counts : Feeding → Feeding → Result Fed FeedFault → Type 0
Counts old new (Ok (next.Packet packet)) = (new.given ≡ old.given + 1) × (old.given < old.most) × IsShown packet new
Counts old new (Ok next.End) = new.given ≡ old.given
Counts old new (Ok next.TooMany) = (new.given ≡ old.given) × (old.given ≡ old.most)
Counts old new (Err fault) = new.given ≡ old.given

-- Where nothing that is still given comes before a time, the packet that is given doesn't, and nothing
-- comes before it then.
abbrev pub GoesFrom : ℕ → List Stream → Result Fed FeedFault → Type 0
GoesFrom time sources (Ok (next.Packet packet)) = (time ≤ packet.time) × AreFrom packet.time sources
GoesFrom time sources (Ok next.End) = AreFrom time sources
GoesFrom time sources (Ok next.TooMany) = AreFrom time sources
GoesFrom time sources (Err fault) = Unit {0}

-- what starting comes to
abbrev pub Starts : List ℕ → List Bool → ℕ → Told → Told → Result Feeding FeedFault → Type 0
Starts files six most start now (Ok v) =
    StandsFor start [] v now × (files_in v.sources ≡ files) × (v.most ≡ most) × (sixes_in v.sources ≡ six)
Starts files six most start now (Err (NotCapture port)) = IsLeastBad files start port
Starts files six most start now (Err (File port)) = AreLesserCaptures files start port
Starts files six most start now (Err Memory) = Unit {0}

-- the first port from one on whose capture is torn, and the offset
abbrev pub first_tear : ℕ → List (Option ℕ) → Option (ℕ × ℕ)
first_tear port [] = None
first_tear port (None ∷ tears) = first_tear (port + 1) tears
first_tear port (Some offset ∷ tears) = Some (port, offset)

-- where each capture was found to be torn
abbrev pub tears_in : List Stream → List (Option ℕ)
tears_in sources = map (λ s. tear_in s.ahead) sources
