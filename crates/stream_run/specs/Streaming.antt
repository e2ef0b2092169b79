-- A run that goes on packet by packet.
use Rattle.std.specs.Prelude.{◌≡◌, ◌≤◌, ℕ, List, [], ◌∷◌, ◌++◌, length, map, slice_get, Option, Some, None, Result, Ok, Err}
use Rattle.std.specs.List.{AllByRecursion}
use Rattle.nf_base.specs.Text.{Function}
use Rattle.nf_base.specs.Runs.{Handling, RunResult, run}
use Rattle.nf_base.specs.Step.{step, opening}
use Rattle.nf_base.specs.declared.card.Card.{Card}
use Rattle.capture_format.specs.declared.format.CaptureFormat.{CaptureFormat}
use Rattle.nf_base.specs.declared.packet.Packet.{Packet}
use Rattle.nf_base.specs.declared.done.Done.{Done}
use Rattle.nf_base.specs.declared.state.State.{State}
use Rattle.nf_files.specs.Told.{Told}
use Rattle.packet_feed.specs.declared.fault.FeedFault.{FeedFault}
use Rattle.packet_feed.specs.declared.fault.FeedFault.TheVariants as feed
use Rattle.packet_feed.specs.Arrivals.{Arrival}
use Rattle.packet_feed.specs.Order.{in_order}
use Rattle.packet_feed.specs.Told.{packets_of}
use Rattle.packet_feed.specs.Sources.{files_in, sixes_in}
use Rattle.packet_feed.specs.Feeding.{Feeding, StandsFor, AreAll, AreTorn, HasMore}
use Rattle.run_history.specs.declared.line.Mode.TheVariants.{One}
use Rattle.stream_run.specs.declared.fault.RunFault.{RunFault}
use Rattle.stream_run.specs.declared.fault.RunFault.TheVariants.{File, Memory}
use Rattle.stream_run.specs.declared.ending.Ending.{Ending}
use Rattle.stream_run.specs.declared.ending.Ending.TheVariants.{All, TooMany}
use Rattle.stream_run.specs.Runs.{Handled}
use Rattle.stream_run.specs.Writing.{Holding, came_to, files_of, AreHeld, AreFronts, AllGoOn}

abbrev pub arrival_of : Handled → Arrival
arrival_of h = h.arrival

-- a packet that was handled, with the indices that it was given
abbrev pub handling_in : Handled → Handling
handling_in h = record { packet = h.arrival.packet; choices = h.done.picks }

-- what a run came to: the last state, and what each packet came to
abbrev pub result_in : List Handled → State → RunResult
result_in hs state = record { state = state; answers = map (λ h. h.done) hs }

-- The undivided function handles these packets, one after another from its opening state: each came to
-- what is said, and this state is left.
abbrev pub IsUndivided : Function → List Handled → State → Type 0
IsUndivided f hs state = run f (opening f) (map handling_in hs) ≡ Some (result_in hs state)

-- one packet was handled, and what it leaves was put into all files
pub record HandlesOne {T E : Type 0} (f : Function) (ports : ℕ) (packet : Packet) (original : ℕ) (frame : List ℕ)
    (before after : State) (old new : Told) (held now : List Holding) (result : Result T E) : Type 0 where
  pub done : Done
  pub steps : step f before packet done.picks ≡ Some (record { state = after; done = done })
  pub goes_on : (card : Card) (format : CaptureFormat) (hs : List Handled) → AreHeld One 1 card format ports hs old held → AllGoOn One 1 card format ports (hs ++ came_to 0 packet original frame done ∷ []) new now result

-- These packets were handled since the run began, and what they leave was given to the files but for
-- what is held.
pub record Reaches (f : Function) (card : Card) (format : CaptureFormat) (ports : ℕ) (begun : Feeding) (start : Told) (feed : Feeding) (now : Told) (sinks : List Holding) (state : State) : Type 0 where
  pub hs : List Handled
  pub undivided : IsUndivided f hs state
  pub alone : AllByRecursion (λ h. h.worker ≡ 0) hs
  pub stands : (before : Told) → StandsFor before [] begun start → StandsFor before (map arrival_of hs) feed now
  pub held : AreHeld One 1 card format ports hs now sinks
  pub count : length hs ≡ feed.given

-- these are the first packets of captures, in capture order, where all is told
abbrev pub AreFirst : Option (List Arrival) → List Arrival → Type 0
AreFirst None given = Unit {0}
AreFirst (Some all) given = (later : List Arrival) × (in_order all ≡ given ++ later)

-- The run was stopped. These packets were handled until then, and each file was given a front of what
-- they leave there.
pub record Halts (f : Function) (card : Card) (format : CaptureFormat) (ports : ℕ) (begun : Feeding) (start now : Told) (files : List ℕ) : Type 0 where
  pub hs : List Handled
  pub state : State
  pub undivided : IsUndivided f hs state
  pub alone : AllByRecursion (λ h. h.worker ≡ 0) hs
  pub first : (before : Told) → StandsFor before [] begun start → AreFirst (packets_of (sixes_in begun.sources) (files_in begun.sources) before) (map arrival_of hs)
  pub within : length hs ≤ begun.most
  pub fronts : AreFronts One 1 card format ports hs now files

-- how it ended: all packets were handled, or as many as were asked for
abbrev pub IsEnding : Ending → Feeding → Told → List Handled → Type 0
IsEnding All feed before hs = AreAll (packets_of (sixes_in feed.sources) (files_in feed.sources) before) (map arrival_of hs) × AreTorn before feed.sources
IsEnding TooMany feed before hs = (length hs ≡ feed.most) × HasMore (packets_of (sixes_in feed.sources) (files_in feed.sources) before) (length hs)

-- a run that nothing stopped
pub record Ends (f : Function) (card : Card) (format : CaptureFormat) (ports : ℕ) (begun : Feeding) (start : Told) (feed : Feeding) (now : Told) (sinks : List Holding) (state : State) (ending : Ending) : Type 0 where
  pub reached : Reaches f card format ports begun start feed now sinks state
  pub ending_is : (before : Told) → StandsFor before [] begun start → IsEnding ending feed before reached.hs
  pub same_files : files_in feed.sources ≡ files_in begun.sources
  pub same_six : sixes_in feed.sources ≡ sixes_in begun.sources
  pub same_most : feed.most ≡ begun.most
  pub within : feed.given ≤ feed.most

-- what a run comes to
abbrev pub Comes : Function → Card → CaptureFormat → ℕ → Feeding → Told → Feeding → Told → List Holding → State → Result Ending RunFault → Type 0
Comes f card format ports begun start feed now sinks state (Ok ending) = Ends f card format ports begun start feed now sinks state ending
Comes f card format ports begun start feed now sinks state (Err stop) = Halts f card format ports begun start now (files_of sinks)

-- the file of a port that failed
abbrev pub stop_on : Option ℕ → RunFault
stop_on None = Memory
stop_on (Some file) = File file

-- what a fault of the captures is for a run
abbrev pub stop_in : List ℕ → FeedFault → RunFault
stop_in captures (feed.NotCapture port) = Memory
stop_in captures (feed.File port) = stop_on (slice_get captures port)
stop_in captures feed.Memory = Memory
