-- A run of captures by one worker, and what it leaves.
use Rattle.std.specs.Prelude.{◌≡◌, ◌≤◌, ℕ, List, [], length, map, take, slice_get, Option, Some, None, Result, Ok, Err}
use Rattle.std.specs.List.{AllByRecursion}
use Rattle.nf_base.specs.Text.{Function}
use Rattle.nf_base.specs.declared.card.Card.{Card}
use Rattle.capture_format.specs.declared.format.CaptureFormat.{CaptureFormat}
use Rattle.nf_base.specs.declared.done.Done.{Done}
use Rattle.nf_base.specs.declared.state.State.{State}
use Rattle.nf_files.specs.Told.{Told, IsToldAs}
use Rattle.packet_feed.specs.Arrivals.{Arrival}
use Rattle.packet_feed.specs.Order.{in_order}
use Rattle.packet_feed.specs.Told.{packets_of}
use Rattle.packet_feed.specs.Sources.{files_in, sixes_in}
use Rattle.packet_feed.specs.Feeding.{Feeding, StandsFor, AreAll, AreTorn, HasMore}
use Rattle.run_history.specs.declared.line.Mode.TheVariants.{One}
use Rattle.stream_run.specs.declared.ending.Ending.{Ending}
use Rattle.stream_run.specs.declared.ending.Ending.TheVariants.{All, TooMany}
use Rattle.stream_run.specs.declared.ran.Ran.{Ran}
use Rattle.stream_run.specs.declared.fault.RunFault.{RunFault}
use Rattle.stream_run.specs.Runs.{Run, Handled, course_of, arrival_in}
use Rattle.stream_run.specs.Rules.{Rule, one_rule, IsRunBy}
use Rattle.stream_run.specs.Texts.{file_bytes, bytes_of}
use Rattle.stream_run.specs.Writing.{IsFrontIfTold}
use Rattle.stream_run.specs.Streaming.{IsUndivided, AreFirst, IsEnding, Halts, arrival_of}

-- the first packets of captures in capture order, at most so many, where all is told
abbrev pub AreTheFirst : ℕ → Option (List Arrival) → List Arrival → Type 0
AreTheFirst most None arrivals = Unit {0}
AreTheFirst most (Some all) arrivals = arrivals ≡ take most (in_order all)

-- The first packets of captures in capture order, at most so many, are handled by a rule, with this
-- network card.
pub record IsRunOver (rule : Rule) (f : Function) (card : Card) (most : ℕ) (all : Option (List Arrival)) (r : Run) : Type 0 where
  pub given : List Arrival
  pub is_run : IsRunBy rule f card given r
  pub within : length given ≤ most
  pub packets : AreTheFirst most all given

-- how a run ended: all packets were handled, and captures are torn as was found; or there are more
abbrev pub EndsSo : Ending → Feeding → Told → List Arrival → Type 0
EndsSo All feed before arrivals = AreAll (packets_of (sixes_in feed.sources) (files_in feed.sources) before) arrivals × AreTorn before feed.sources
EndsSo TooMany feed before arrivals = (length arrivals ≡ feed.most) × HasMore (packets_of (sixes_in feed.sources) (files_in feed.sources) before) (length arrivals)

-- One run's files are whole, and its last state is told, and how it ended.
pub record IsFinished (f : Function) (card : Card) (format : CaptureFormat) (begun : Feeding) (start : Told) (feed : Feeding) (now : Told) (files : List ℕ) (ran : Ran) : Type 0 where
  pub run : Run
  pub some : IsRunOver one_rule f card begun.most None run
  pub lawful : (before : Told) → StandsFor before [] begun start → IsRunOver one_rule f card begun.most (packets_of (sixes_in begun.sources) (files_in begun.sources) before) run
  pub ending : (before : Told) → StandsFor before [] begun start → EndsSo ran.ending feed before (map arrival_in run.turns)
  pub same_files : files_in feed.sources ≡ files_in begun.sources
  pub same_six : sixes_in feed.sources ≡ sixes_in begun.sources
  pub same_most : feed.most ≡ begun.most
  pub count : length run.turns ≡ ran.packets
  pub left : (answers : List Done) × (course_of run ≡ Some (record { state = ran.state; answers = answers }))
  pub wholes : (k file : ℕ) → slice_get files k ≡ Some file → IsToldAs (file_bytes format run k) (now.given file)

-- each file holds a front of what one run leaves there
pub record HoldsFronts (f : Function) (card : Card) (format : CaptureFormat) (most : ℕ) (all : Option (List Arrival)) (now : Told) (files : List ℕ) : Type 0 where
  pub run : Run
  pub is_run : IsRunOver one_rule f card most all run
  pub fronts : (k file : ℕ) → slice_get files k ≡ Some file → IsFrontIfTold (file_bytes format run k) (now.given file)

-- the run was stopped, and could have gone on
pub record IsCutShort (f : Function) (card : Card) (format : CaptureFormat) (begun : Feeding) (start now : Told) (files : List ℕ) : Type 0 where
  pub some : HoldsFronts f card format begun.most None now files
  pub lawful : (before : Told) → StandsFor before [] begun start → HoldsFronts f card format begun.most (packets_of (sixes_in begun.sources) (files_in begun.sources) before) now files

-- what a run comes to
abbrev pub Runs : Function → Card → CaptureFormat → Feeding → Told → Feeding → Told → List ℕ → Result Ran RunFault → Type 0
Runs f card format begun start feed now files (Ok ran) = IsFinished f card format begun start feed now files ran
Runs f card format begun start feed now files (Err stop) = IsCutShort f card format begun start now files

-- these packets were handled, what they leave was given to the files, and nothing is held
pub record Finishes (f : Function) (card : Card) (format : CaptureFormat) (ports : ℕ) (begun : Feeding) (start : Told) (feed : Feeding) (now : Told) (files : List ℕ) (ending : Ending) (packets : ℕ) (state : State) : Type 0 where
  pub hs : List Handled
  pub undivided : IsUndivided f hs state
  pub alone : AllByRecursion (λ (h : Handled). h.worker ≡ 0) hs
  pub first : (before : Told) → StandsFor before [] begun start → AreFirst (packets_of (sixes_in begun.sources) (files_in begun.sources) before) (map arrival_of hs)
  pub ending_is : (before : Told) → StandsFor before [] begun start → IsEnding ending feed before hs
  pub same_files : files_in feed.sources ≡ files_in begun.sources
  pub same_six : sixes_in feed.sources ≡ sixes_in begun.sources
  pub same_most : feed.most ≡ begun.most
  pub within : length hs ≤ begun.most
  pub count : length hs ≡ packets
  pub wholes : (k file : ℕ) → slice_get files k ≡ Some file → IsToldAs (bytes_of One 1 card format ports k hs) (now.given file)

-- what handling all packets and giving what is held to the files comes to
abbrev pub Flows : Function → Card → CaptureFormat → ℕ → Feeding → Told → Feeding → Told → List ℕ → State → Result Ending RunFault → Type 0
Flows f card format ports begun start feed now files state (Ok ending) = Finishes f card format ports begun start feed now files ending feed.given state
Flows f card format ports begun start feed now files state (Err stop) = Halts f card format ports begun start now files

-- what a whole run comes to, of the packets that were handled
abbrev pub Streams : Function → Card → CaptureFormat → ℕ → Feeding → Told → Feeding → Told → List ℕ → Result Ran RunFault → Type 0
Streams f card format ports begun start feed now files (Ok ran) = Finishes f card format ports begun start feed now files ran.ending ran.packets ran.state
Streams f card format ports begun start feed now files (Err stop) = Halts f card format ports begun start now files
