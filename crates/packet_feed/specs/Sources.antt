-- Captures that are read side by side, of which the i-th is that of port i.
use Rattle.std.specs.Prelude.{◌≡◌, ◌≢◌, ℕ, ◌+◌, ◌≤◌, ◌<◌, Bool, true, List, [], ◌++◌, length, map, slice_get, slice_set, Option, Some, None, option_and_then, nat_le, if◌then◌else◌, Result, Ok, Err}
use Rattle.nf_base.specs.declared.packet.Packet.{Packet}
use Rattle.nf_files.specs.Told.{Told}
use Rattle.pcap_file.specs.Record.{greatest_time}
use Rattle.pcap_file.specs.declared.fault.CapFault.{CapFault}
use Rattle.pcap_file.specs.declared.fault.CapFault.TheVariants.{NotCapture, File, Memory}
use Rattle.packet_feed.specs.declared.ahead.Ahead.TheVariants.{Unread}
use Rattle.packet_feed.specs.declared.first.First.{First}
use Rattle.pcap_file.specs.Taken.{AreTaken}
use Rattle.packet_feed.specs.Captures.{is_pcap, IsKind}
use Rattle.packet_feed.specs.Arrivals.{Arrival}
use Rattle.packet_feed.specs.Order.{in_order}
use Rattle.packet_feed.specs.declared.fault.FeedFault.{FeedFault}
use Rattle.packet_feed.specs.declared.fault.FeedFault.TheVariants as feed
use Rattle.packet_feed.specs.Told.{Carries, gathered, packets_in, packets_of, IsTear, IsNoCapture, IsCapture}
use Rattle.packet_feed.specs.Streams.{Stream, last_read, packets_left, tear_left, time_in, IsSettled, IsFrom}
use Rattle.packet_feed.specs.Taken.{IsTaken, TakesAhead}

-- the files of captures, by port
abbrev pub files_in : List Stream → List ℕ
files_in sources = map (λ s. s.reading.file) sources

-- whether the ports of captures have handlers for IPv6
abbrev pub sixes_in : List Stream → List Bool
sixes_in sources = map (λ s. s.six) sources

-- how many packets of each capture were given
abbrev pub counts_in : List Stream → List ℕ
counts_in sources = map (λ s. s.seq) sources

-- the packets that all captures have still to give, where the rests of their files are told
abbrev pub all_left : List Stream → Told → Option (List Arrival)
all_left sources told = gathered (λ port s. packets_left port s (told.rest s.reading.file)) 0 sources

-- All packets in order are those that were given, and behind them those that are left, in order.
abbrev pub Follows : Option (List Arrival) → List Arrival → Option (List Arrival) → Type 0
Follows (Some all) given (Some left) = in_order all ≡ given ++ in_order left
Follows (Some all) given None = ⊥
Follows None given left = Unit {0}

-- What stands of one capture since its bytes were told at the start: its format, where it is torn, and of
-- a libpcap capture how much of it was taken.
pub record SourceStands (start : Told) (given : List Arrival) (now : Told) (port : ℕ) (s : Stream) : Type 0 where
  pub kind : IsKind (start.rest s.reading.file) s.reading.captured
  pub torn : IsTear (start.rest s.reading.file) (tear_left s (now.rest s.reading.file))
  pub taken : is_pcap s.reading.captured ≡ true → IsTaken port given s (start.rest s.reading.file) (now.rest s.reading.file)

-- Since the start these packets were given: the first ones in capture order of all captures, where
-- their bytes were told.
pub record SourcesStand (start : Told) (given : List Arrival) (sources : List Stream) (now : Told) : Type 0 where
  pub order : Follows (packets_of (sixes_in sources) (files_in sources) start) given (all_left sources now)
  pub each : (port : ℕ) (s : Stream) → slice_get sources port ≡ Some s → SourceStands start given now port s

-- what is known of a capture whose header was read
pub record IsOpened (file : ℕ) (six : Bool) (start : Option (List ℕ)) (s : Stream) (now : Option (List ℕ)) : Type 0 where
  pub file_is : s.reading.file ≡ file
  pub six_is : s.six ≡ six
  pub unread : s.ahead ≡ Unread
  pub none_given : s.seq ≡ 0
  pub packets : (port : ℕ) → Carries (packets_in s.six port start) (packets_left port s now)
  pub kind : IsKind start s.reading.captured
  pub torn : IsTear start (tear_left s now)
  pub taken : is_pcap s.reading.captured ≡ true → AreTaken 24 start now

-- reading a header, and why there is none
abbrev pub Opens : ℕ → Bool → Option (List ℕ) → Option (List ℕ) → Result Stream CapFault → Type 0
Opens file six start now (Ok s) = IsOpened file six start s now
Opens file six start now (Err NotCapture) = IsNoCapture start
Opens file six start now (Err File) = Unit {0}
Opens file six start now (Err Memory) = Unit {0}

-- what is left of a capture is as before, and it is known what comes next
pub record IsFilled (old new : Stream) (before now : Option (List ℕ)) : Type 0 where
  pub packets : (port : ℕ) → Carries (packets_left port old before) (packets_left port new now)
  pub torn : Carries (tear_left old before) (tear_left new now)
  pub same_kind : is_pcap new.reading.captured ≡ is_pcap old.reading.captured
  pub taken : is_pcap old.reading.captured ≡ true → TakesAhead old new before now
  pub settled : IsSettled new.ahead

-- of each capture it is known what comes next
abbrev pub AreSettled : List Stream → Type 0
AreSettled sources = (port : ℕ) (s : Stream) → slice_get sources port ≡ Some s → IsSettled s.ahead

-- of each capture but that of a port it is
abbrev pub AreSettledBut : ℕ → List Stream → Type 0
AreSettledBut port sources =
    (p : ℕ) (s : Stream) → slice_get sources p ≡ Some s → p ≢ port → IsSettled s.ahead

-- nothing that captures still give comes before a time
abbrev pub AreFrom : ℕ → List Stream → Type 0
AreFrom time sources = (port : ℕ) (s : Stream) → slice_get sources port ≡ Some s → IsFrom time s.ahead s.latest

-- the time of the packet that a port's capture gives next, if it is read ahead
abbrev pub time_at : List Stream → ℕ → Option ℕ
time_at sources port = option_and_then (λ s. time_in s.ahead s.latest) (slice_get sources port)

-- of the packets that are read ahead below a port, the first is this; ties go by port
abbrev pub IsFirst : List Stream → ℕ → Option First → Type 0
IsFirst sources below None = (port : ℕ) → port < below → time_at sources port ≡ None
IsFirst sources below (Some f) =
    (f.port < below) × (time_at sources f.port ≡ Some f.time)
    × ((port time : ℕ) → port < below → time_at sources port ≡ Some time → (f.time ≤ time) × (time ≤ f.time → f.port ≤ port))

-- of the first so far and a packet at a higher port, the one that comes first
abbrev pub sooner : Option First → ℕ → Option ℕ → Option First
sooner first port None = first
sooner None port (Some time) = Some (record { port = port; time = time })
sooner (Some f) port (Some time) = if nat_le f.time time then Some f else Some (record { port = port; time = time })

-- the files of all lesser ports are captures
abbrev pub AreLesserCaptures : List ℕ → Told → ℕ → Type 0
AreLesserCaptures files start port =
    (p f : ℕ) → p < port → slice_get files p ≡ Some f → IsCapture (start.rest f)

-- what the port of a wrong header is: its file is no capture, and those of all lesser ports are
pub record IsLeastBad (files : List ℕ) (start : Told) (port : ℕ) : Type 0 where
  pub file : ℕ
  pub at : slice_get files port ≡ Some file
  pub none : IsNoCapture (start.rest file)
  pub lesser : AreLesserCaptures files start port

-- The headers of captures were read, and nothing was given; or one is wrong, or could not be read
-- behind those of all lesser ports.
abbrev pub AreOpened : List ℕ → List Bool → Told → Told → Result (List Stream) FeedFault → Type 0
AreOpened files six start now (Ok sources) =
    SourcesStand start [] sources now × (files_in sources ≡ files) × (counts_in sources ≡ map (λ file. 0) files)
    × (sixes_in sources ≡ six)
AreOpened files six start now (Err (feed.NotCapture port)) = IsLeastBad files start port
AreOpened files six start now (Err (feed.File port)) = AreLesserCaptures files start port
AreOpened files six start now (Err feed.Memory) = Unit {0}

-- a stream whose record that was read ahead was given
abbrev pub given_away : Stream → Stream
given_away s = record s { ahead = Unread; seq = s.seq + 1 }

-- The packet that was read ahead of a port's capture was given.
pub record IsGiven (port : ℕ) (packet : Packet) (old new : List Stream) : Type 0 where
  pub source : Stream
  pub at : slice_get old port ≡ Some source
  pub packet_is : packet ≡ (last_read port source).packet
  pub new_is : new ≡ slice_set old port (given_away source)
  pub time : packet.time ≤ greatest_time
  pub captured : length source.frame ≤ 262144
