-- Captures that are read side by side, where the packets of each port are given in their order, whatever
-- stands between them.
use Rattle.std.specs.Prelude.{◌≡◌, ◌==◌, ℕ, ◌+◌, ◌<◌, Bool, true, false, List, [], ◌∷◌, ◌++◌, length, filter, slice_get, Option, Some, None, Result, Ok, Err}
use Rattle.std.specs.List.{AllByRecursion}
use Rattle.nf_base.specs.declared.packet.Packet.{Packet}
use Rattle.nf_files.specs.Told.{Told}
use Rattle.packet_feed.specs.declared.fault.FeedFault.{FeedFault}
use Rattle.packet_feed.specs.Arrivals.{Arrival}
use Rattle.packet_feed.specs.Told.{packets_in, packets_of}
use Rattle.packet_feed.specs.Streams.{Stream, packets_left, is_held, IsSettled}
use Rattle.packet_feed.specs.Sources.{files_in, sixes_in, SourceStands, IsGiven}
use Rattle.packet_feed.specs.Feeding.{Feeding, IsShown, shown}

-- a packet came in at a port
abbrev pub is_of : ℕ → Arrival → Bool
is_of port a = a.packet.id.port == port

-- These are, of each port, the first packets of its capture, where all is told.
abbrev pub AreFirstOfPorts : Option (List Arrival) → List Arrival → Type 0
AreFirstOfPorts None given = Unit {0}
AreFirstOfPorts (Some all) given =
    (port : ℕ) → (later : List Arrival) × (filter (is_of port) all ≡ filter (is_of port) given ++ later)

-- of this port none is left
abbrev pub AreAllOf : ℕ → Option (List Arrival) → List Arrival → Type 0
AreAllOf port None given = Unit {0}
AreAllOf port (Some all) given = filter (is_of port) all ≡ filter (is_of port) given

-- All packets of a capture are those of its port that were given, and behind them those that are left.
abbrev pub FollowsAt : ℕ → Option (List Arrival) → List Arrival → Option (List Arrival) → Type 0
FollowsAt port (Some all) given (Some left) = all ≡ filter (is_of port) given ++ left
FollowsAt port (Some all) given None = ⊥
FollowsAt port None given left = Unit {0}

-- Since the start these packets were given, each of one of the captures.
pub record SourcesStandByPort (start : Told) (given : List Arrival) (sources : List Stream) (now : Told) : Type 0 where
  pub among : AllByRecursion (λ (a : Arrival). a.packet.id.port < length sources) given
  pub follows : (port : ℕ) (s : Stream) → slice_get sources port ≡ Some s → FollowsAt port (packets_in s.six port (start.rest s.reading.file)) given (packets_left port s (now.rest s.reading.file))
  pub each : (port : ℕ) (s : Stream) → slice_get sources port ≡ Some s → SourceStands start given now port s

-- This value stands for the captures' bytes at a start and for the packets that were given since.
pub record StandsByPort (start : Told) (given : List Arrival) (v : Feeding) (now : Told) : Type 0 where
  pub count : length given ≡ v.given
  pub sources : SourcesStandByPort start given v.sources now

-- of a port's capture it is known what comes next
abbrev pub IsSettledAt : ℕ → List Stream → Type 0
IsSettledAt port sources = (s : Stream) → slice_get sources port ≡ Some s → IsSettled s.ahead

-- a record of a port's capture was read ahead, or none was
abbrev pub IsHeldAt : ℕ → List Stream → Bool → Type 0
IsHeldAt port sources held = (s : Stream) → slice_get sources port ≡ Some s → is_held s.ahead ≡ held

-- the packet that was read ahead of a port's capture was given, or none was read ahead
abbrev pub IsGivenAt : ℕ → List Stream → List Stream → Option Packet → Type 0
IsGivenAt port old new None = (new ≡ old) × IsHeldAt port old false
IsGivenAt port old new (Some packet) = IsGiven port packet old new × IsHeldAt port old true

-- What an answer says of the packets that were given before.
abbrev pub FeedsAt : ℕ → Told → List Arrival → Feeding → Told → Result (Option Packet) FeedFault → Type 0
FeedsAt port start given v now (Ok (Some packet)) = StandsByPort start (given ++ shown packet v ∷ []) v now
FeedsAt port start given v now (Ok None) =
    StandsByPort start given v now × AreAllOf port (packets_of (sixes_in v.sources) (files_in v.sources) start) given
FeedsAt port start given v now (Err fault) = Unit {0}

-- How many packets were given: one more, or no more.
abbrev pub CountsAt : ℕ → Feeding → Feeding → Result (Option Packet) FeedFault → Type 0
CountsAt port old new (Ok (Some packet)) = (new.given ≡ old.given + 1) × (packet.id.port ≡ port) × IsShown packet new
CountsAt port old new (Ok None) = new.given ≡ old.given
CountsAt port old new (Err fault) = new.given ≡ old.given
