-- Packets that are handed to workers one by one, and what is written of them as answers come.
use Rattle.std.specs.Prelude.{◌≡◌, ◌≤◌, ◌+◌, ℕ, List, [], ◌∷◌, ◌++◌, length, map, Option, Some, None, is_some, true, Result, Ok, Err}
use Rattle.nf_base.specs.declared.card.Card.{Card}
use Rattle.nf_base.specs.declared.func.Func.{Func}
use Rattle.nf_base.specs.declared.keys.Keys.{Keys}
use Rattle.nf_base.specs.declared.packet.Packet.{Packet}
use Rattle.nf_base.specs.Doors.{six_ports}
use Rattle.nf_base.specs.Functions.{function_of}
use Rattle.capture_format.specs.declared.format.CaptureFormat.{CaptureFormat}
use Rattle.nf_files.specs.Told.{Told}
use Rattle.pcap_file.specs.Record.{greatest_time}
use Rattle.packet_feed.specs.Arrivals.{Arrival, packet_of}
use Rattle.packet_feed.specs.Sources.{sixes_in}
use Rattle.packet_feed.specs.Feeding.{Feeding}
use Rattle.run_history.specs.declared.line.Mode.TheVariants.{Shard}
use Rattle.shard_machine.specs.Machine.{Setup}
use Rattle.shard_machine.specs.Moments.{IsSetup}
use Rattle.shard_core.specs.declared.collected.Collected.{Collected}
use Rattle.shard_core.specs.declared.collected.Stop as share
use Rattle.ring_line.specs.Lines.{LineStands, HasRoom, StandsAtStop}
use Rattle.stream_run.specs.declared.ending.Ending.{Ending}
use Rattle.stream_run.specs.Runs.{Handled}
use Rattle.stream_run.specs.Rules.{queue_by}
use Rattle.stream_run.specs.Writing.{Holding, files_of, AreHeld, AreFronts}
use Rattle.sharded_run.specs.declared.result.RunEnd as ended
use Rattle.sharded_run.specs.declared.result.RunEnd.TheVariants as end
use Rattle.sharded_run.specs.declared.result.ReadResult as passed
use Rattle.sharded_run.specs.declared.result.ReadResult.TheVariants as pass
use Rattle.sharded_run.specs.declared.result.ShareFull.{ShareFull}
use Rattle.sharded_run.specs.declared.crew.Crew.{Crew}
use Rattle.sharded_run.specs.Reading.{Gathers, IsOver}
use Rattle.sharded_run.specs.Answered.{answered}

-- ---- one packet

-- its time and its frame are no larger than those of a record
pub record Fits (packet : Packet) (frame : List ℕ) : Type 0 where
  pub time : packet.time ≤ greatest_time
  pub captured : length frame ≤ 262144

-- ---- the workers

-- workers of a function under keys, to which nothing was sent
pub record IsNewCrew {G : Type 0} (crew : Crew G) (func : Func) (keys : Keys) (workers : ℕ)
    : Type 0 where
  pub keys_are : crew.router.keys ≡ keys
  pub workers_are : crew.router.workers ≡ workers
  pub frames : crew.frames ≡ []
  pub ports_are : crew.ports ≡ length func.handlers
  pub stands : (x : Setup) → IsSetup x → x.function ≡ function_of func → x.workers ≡ workers →
      LineStands crew.line x [] []

-- All these packets were sent, and what the answered ones of them leave is in the files or is held; the
-- frames of the others are kept.
pub record Passing {G : Type 0} (x : Setup) (card : Card) (format : CaptureFormat) (now : Told)
    (crew : Crew G) (sinks : List Holding) (all : List Arrival) : Type 0 where
  pub got : List Collected
  pub done : List Arrival
  pub parts : all ≡ done ++ crew.frames
  pub long : length done ≡ length got
  pub stands : LineStands crew.line x (map packet_of all) got
  pub held : AreHeld Shard x.workers card format crew.ports (answered all got) now sinks

-- The files have fronts of what the answered ones leave there.
pub record CutsShort {G : Type 0} (x : Setup) (card : Card) (format : CaptureFormat) (now : Told)
    (crew : Crew G) (files : List ℕ) (all : List Arrival) : Type 0 where
  pub got : List Collected
  pub done : List Arrival
  pub rest : List Arrival
  pub parts : all ≡ done ++ rest
  pub long : length done ≡ length got
  pub stands : LineStands crew.line x (map packet_of all) got
  pub fronts : AreFronts Shard x.workers card format crew.ports (answered all got) now files

-- what writing comes to: it goes on, or the next packet is a share stop
abbrev pub Wrote : {G E : Type 0} →
    Setup → Card → CaptureFormat → Told → Crew G → List Holding → List Arrival →
    Result (Option share.Stop) E → Type 0
Wrote x card format now crew sinks all (Ok None) = Passing x card format now crew sinks all
Wrote x card format now crew sinks all (Ok (Some stop)) =
    Passing x card format now crew sinks all × StandsAtStop crew.line stop
Wrote x card format now crew sinks all (Err e) =
    CutsShort x card format now crew (files_of sinks) all

-- the same where no share stop is told
abbrev pub WroteOne : {G T E : Type 0} →
    Setup → Card → CaptureFormat → Told → Crew G → List Holding → List Arrival → Result T E →
    Type 0
WroteOne x card format now crew sinks all (Ok t) = Passing x card format now crew sinks all
WroteOne x card format now crew sinks all (Err e) =
    CutsShort x card format now crew (files_of sinks) all

-- they route packets as before, and keep no more frames
pub record SameCrew {G : Type 0} (old new : Crew G) : Type 0 where
  pub router : new.router ≡ old.router
  pub ports : new.ports ≡ old.ports
  pub fewer : length new.frames ≤ length old.frames

-- or one frame more
pub record SameButOne {G : Type 0} (old new : Crew G) : Type 0 where
  pub router : new.router ≡ old.router
  pub ports : new.ports ≡ old.ports
  pub fewer : length new.frames ≤ length old.frames + 1

-- where no share stop was met and no file failed, there is room at a queue
abbrev pub HasMade : {G E : Type 0} → Crew G → ℕ → Result (Option share.Stop) E → Type 0
HasMade crew queue (Ok None) = HasRoom crew.line queue
HasMade crew queue (Ok (Some stop)) = Unit {0}
HasMade crew queue (Err e) = Unit {0}

-- a packet more was sent, where there was memory
abbrev pub SentSo : {G T E : Type 0} →
    Setup → Card → CaptureFormat → Told → Crew G → List Holding → List Arrival → Arrival →
    Result T E → Type 0
SentSo x card format now crew sinks all one (Ok t) =
    Passing x card format now crew sinks (all ++ one ∷ [])
SentSo x card format now crew sinks all one (Err e) =
    Passing x card format now crew sinks all

-- the share stop that was met, at which the line stands
pub record MetStop {G : Type 0} (crew : Crew G) : Type 0 where
  pub stop : share.Stop
  pub is : crew.met ≡ Some stop
  pub stands : StandsAtStop crew.line stop

-- where a share stop was met, the crew tells it
abbrev pub HasMet : {G E : Type 0} → Crew G → Result passed.ReadResult E → Type 0
HasMet crew (Ok pass.On) = Unit {0}
HasMet crew (Ok (pass.End ending)) = Unit {0}
HasMet crew (Ok (pass.Met packets)) = is_some crew.met ≡ true
HasMet crew (Err e) = Unit {0}

-- What handing a packet to its queue comes to: it was sent; or a share stop was met before it, and so
-- many packets were handled as were given, without it and those whose frames are kept.
abbrev pub HandedOut : {G E : Type 0} →
    Setup → Card → CaptureFormat → Told → Crew G → List Holding → List Arrival → Arrival → ℕ →
    Result passed.ReadResult E → Type 0
HandedOut x card format now crew sinks all one given (Ok pass.On) =
    Passing x card format now crew sinks (all ++ one ∷ [])
HandedOut x card format now crew sinks all one given (Ok (pass.End ending)) = ⊥
HandedOut x card format now crew sinks all one given (Ok (pass.Met packets)) =
    Passing x card format now crew sinks all
    × MetStop crew
    × (packets + (length crew.frames + 1) ≡ given)
HandedOut x card format now crew sinks all one given (Err e) =
    CutsShort x card format now crew (files_of sinks) all

-- ---- the captures

-- the workers are those of a setup, which fits the captures
pub record Suits {G : Type 0} (x : Setup) (ports : ℕ) (crew : Crew G) (feed : Feeding)
    : Type 0 where
  pub queue : (p : Packet) → x.queue p ≡ queue_by crew.router.keys crew.router.workers p
  pub six : sixes_in feed.sources ≡ six_ports x.function
  pub ports_are : ports ≡ length x.function.handlers

-- these packets are the first ones of captures
pub record WereRead (ports : ℕ) (begun : Feeding) (start : Told) (all : List Arrival)
    : Type 0 where
  pub feed : Feeding
  pub now : Told
  pub gathers : Gathers ports begun feed start now all

-- A share stop was met behind all that are written, which are so many.
pub record MeetsStop {G : Type 0} (x : Setup) (card : Card) (format : CaptureFormat) (ports : ℕ)
    (begun : Feeding) (start now : Told) (crew : Crew G) (sinks : List Holding)
    (all : List Arrival) (full : ShareFull) : Type 0 where
  pub passing : Passing x card format now crew sinks all
  pub stop : StandsAtStop crew.line full.stop
  pub count : full.packets ≡ begun.given + length passing.got
  pub read : WereRead ports begun start all

-- what reading a packet and handing it to its queue comes to
abbrev pub PassedSo : {G E : Type 0} →
    Setup → Card → CaptureFormat → ℕ → Feeding → Told → Feeding → Told → Crew G →
    List Holding → List Arrival → Result passed.ReadResult E → Type 0
PassedSo x card format ports begun start feed now crew sinks all (Ok pass.On) =
    (one : Arrival)
    × Passing x card format now crew sinks (all ++ one ∷ [])
    × Gathers ports begun feed start now (all ++ one ∷ [])
PassedSo x card format ports begun start feed now crew sinks all (Ok (pass.End ending)) =
    Passing x card format now crew sinks all
    × Gathers ports begun feed start now all
    × IsOver ending begun start feed all
PassedSo x card format ports begun start feed now crew sinks all (Ok (pass.Met packets)) =
    (stop : share.Stop)
    × (crew.met ≡ Some stop)
    × MeetsStop x card format ports begun start now crew sinks all
    (record { stop = stop; packets = packets })
PassedSo x card format ports begun start feed now crew sinks all (Err e) =
    CutsShort x card format now crew (files_of sinks) all × WereRead ports begun start all

-- ---- all of them

-- All packets were answered; of the files this is known.
pub record AllPassed {G : Type 0} (x : Setup) (ports : ℕ) (begun : Feeding) (start : Told)
    (feed : Feeding) (now : Told) (crew : Crew G) (ending : Ending) (Left : List Handled → Type 0)
    : Type 0 where
  pub all : List Arrival
  pub got : List Collected
  pub stands : LineStands crew.line x (map packet_of all) got
  pub none : crew.line.order.items ≡ []
  pub gathers : Gathers ports begun feed start now all
  pub over : IsOver ending begun start feed all
  pub left : Left (answered all got)

-- Those before a share stop were answered.
pub record SomePassed {G : Type 0} (x : Setup) (ports : ℕ) (begun : Feeding) (start : Told)
    (crew : Crew G) (full : ShareFull) (Left : List Handled → Type 0) : Type 0 where
  pub all : List Arrival
  pub got : List Collected
  pub stands : LineStands crew.line x (map packet_of all) got
  pub stop : StandsAtStop crew.line full.stop
  pub count : full.packets ≡ begun.given + length got
  pub read : WereRead ports begun start all
  pub left : Left (answered all got)

-- what all packets come to, by what is known of the files then, or of fronts of them
abbrev pub FlowsSo : {G E : Type 0} →
    Setup → ℕ → Feeding → Told → Feeding → Told → Crew G →
    (List Handled → Type 0) → (List Handled → Type 0) → Result ended.RunEnd E → Type 0
FlowsSo x ports begun start feed now crew Left Front (Ok (end.Over ending)) =
    AllPassed x ports begun start feed now crew ending Left
FlowsSo x ports begun start feed now crew Left Front (Ok (end.Full full)) =
    SomePassed x ports begun start crew full Left
FlowsSo x ports begun start feed now crew Left Front (Err e) =
    (all : List Arrival)
    × (got : List Collected)
    × LineStands crew.line x (map packet_of all) got
    × WereRead ports begun start all
    × Front (answered all got)
