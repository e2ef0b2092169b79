-- Packets that are read from captures before any of them is worked.
use Rattle.std.specs.Prelude.{◌≡◌, ◌+◌, ◌<◌, ◌≤◌, ℕ, Bool, List, [], ◌∷◌, ◌++◌, length, map, Option}
use Rattle.std.specs.List.{AllByRecursion}
use Rattle.nf_base.specs.declared.packet.Fields.{Fields}
use Rattle.nf_base.specs.declared.packet.Packet.{Packet}
use Rattle.nf_base.specs.Doors.{six_at, served_fields}
use Rattle.nf_files.specs.Told.{Told}
use Rattle.nf_base.specs.Hashed.{HasInput}
use Rattle.pcap_file.specs.Record.{greatest_time}
use Rattle.packet_feed.specs.Arrivals.{Arrival, packet_of}
use Rattle.packet_feed.specs.Told.{packets_of}
use Rattle.packet_feed.specs.Sources.{files_in, sixes_in, AreFrom}
use Rattle.packet_feed.specs.Feeding.{Feeding, StandsFor, AreAll, AreTorn, HasMore}
use Rattle.stream_run.specs.declared.ending.Ending.{Ending}
use Rattle.stream_run.specs.declared.ending.Ending.TheVariants.{All, TooMany}

-- times go up from one to another
abbrev pub Rises : ℕ → List Packet → ℕ → Type 0
Rises time [] last = time ≤ last
Rises time (p ∷ ps) last = (time ≤ p.time) × Rises p.time ps last

-- A packet of one of so many ports, with fields within their widths: those of a frame as the handlers
-- of its port see them, where it is told which ports have one for IPv6.
pub record Fits (ports : ℕ) (six : List Bool) (packet : Packet) : Type 0 where
  pub port : packet.id.port < ports
  pub input : HasInput packet
  pub seen : (raw : Option Fields) × (packet.fields ≡ served_fields (six_at six packet.id.port) raw)

-- a record's time and its frame are no more than a capture can hold
pub record IsKept (time : ℕ) (frame : List ℕ) : Type 0 where
  pub time_is : time ≤ greatest_time
  pub captured : length frame ≤ 262144

-- These packets were read since.
pub record Gathers (ports : ℕ) (begun feed : Feeding) (start now : Told) (batch : List Arrival) : Type 0 where
  pub given : (before : Told) (given : List Arrival) → StandsFor before given begun start → StandsFor before (given ++ batch) feed now
  pub count : feed.given ≡ begun.given + length batch
  pub times : (time : ℕ) → AreFrom time begun.sources → (last : ℕ) × Rises time (map packet_of batch) last × AreFrom last feed.sources
  pub same_files : files_in feed.sources ≡ files_in begun.sources
  pub same_six : sixes_in feed.sources ≡ sixes_in begun.sources
  pub same_most : feed.most ≡ begun.most
  pub within : begun.given ≤ begun.most → feed.given ≤ feed.most
  pub fit : AllByRecursion (Fits ports (sixes_in feed.sources)) (map packet_of batch)

-- behind the packets that were given none is left, or as many were given as may be and one is left
abbrev pub IsOver : Ending → Feeding → Told → Feeding → List Arrival → Type 0
IsOver All begun start feed batch =
    (before : Told) (given : List Arrival) → StandsFor before given begun start →
    AreAll (packets_of (sixes_in feed.sources) (files_in feed.sources) before) (given ++ batch) × AreTorn before feed.sources
IsOver TooMany begun start feed batch =
    (feed.given ≡ feed.most)
    × ((before : Told) (given : List Arrival) → StandsFor before given begun start →
    HasMore (packets_of (sixes_in feed.sources) (files_in feed.sources) before) (length (given ++ batch)))
