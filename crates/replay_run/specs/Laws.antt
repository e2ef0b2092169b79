-- What a run leaves is what a replay takes for right.
use Rattle.std.specs.Prelude.{◌≡◌, ◌≢◌, ◌<◌, ◌≤◌, ℕ, Bool, List, [], ◌∷◌, length, map, Option, Some, Ok}
use Rattle.std.specs.List.{AllByRecursion}
use Rattle.capture_format.specs.declared.format.CaptureFormat.{CaptureFormat}
use Rattle.nf_base.specs.declared.card.Card.{Card}
use Rattle.nf_base.specs.declared.keys.Keys.{Keys}
use Rattle.nf_base.specs.declared.done.Done.{Done}
use Rattle.nf_base.specs.declared.state.State.{State}
use Rattle.nf_base.specs.Text.{Function}
use Rattle.nf_files.specs.Told.{Told}
use Rattle.packet_feed.specs.Arrivals.{Arrival}
use Rattle.packet_feed.specs.Told.{packets_of}
use Rattle.packet_feed.specs.Ports.{AreFirstOfPorts}
use Rattle.run_history.specs.Headings.{Heading, IsHeading}
use Rattle.run_history.specs.Lines.{IsLine}
use Rattle.run_history.specs.declared.line.JournalLine.TheVariants.{Header}
use Rattle.journal_read.specs.Journals.{lines_bytes, Reading, Stands, HasNoHeader}
use Rattle.stream_run.specs.Orders.{AreFirstBy}
use Rattle.stream_run.specs.Rules.{Rule, IsRunBy, IsFrontOf, AreBy}
use Rattle.stream_run.specs.Runs.{Run, Handled, course_of, handled_in, run_of}
use Rattle.stream_run.specs.Streaming.{arrival_of, AreFirst}
use Rattle.stream_run.specs.declared.fault.RunFault.{RunFault}
use Rattle.stream_run.specs.Texts.{file_bytes}
use Rattle.replay_run.specs.Replaying.{RunKind, Beside, IsRun, AreFirstIn, line_in, journal_lines, sent}
use Rattle.replay_run.specs.Queues.{keys_or_none, IsKeyedBy}
use Rattle.replay_run.specs.Heads.{Comes}
use Rattle.replay_run.specs.declared.result.ReplayResult.{ReplayResult}
use Rattle.replay_run.specs.declared.result.ReplayResult.TheVariants.{Same}

-- what the first line of a run's journal tells
abbrev pub heading_of : Run → Heading
heading_of r = record { mode = r.mode; workers = r.workers; card = r.card }

-- A run's packets are such a run, and this state is left. Its journal is their lines, behind the first
-- one, and its outputs are what they send.
pub record IsRightRun (Kind : RunKind) (r : Run) (state : State) : Type 0 where
  pub is_run : Kind (handled_in r) state
  pub journal : (format : CaptureFormat) → file_bytes format r (length r.function.handlers) ≡ lines_bytes (journal_lines (heading_of r) (handled_in r))
  pub outputs : (format : CaptureFormat) (port : ℕ) → file_bytes format r port ≡ sent format (heading_of r) (length r.function.handlers) (handled_in r) port

-- All is told. These packets are ones that a journal may begin with, and such a run; their lines are the
-- journal's, and what they send is what the outputs hold.
pub record IsThere (Kind : RunKind) (keys : Option Keys) (heading : Heading) (ports : ℕ) (beside : Beside) (hs : List Handled) (state : State) : Type 0 where
  pub all : List Arrival
  pub captures : beside.packets ≡ Some all
  pub first : AreFirstIn heading.mode (Some all) (map arrival_of hs)
  pub within : length hs ≤ beside.most
  pub run : Kind hs state
  pub header : IsHeading heading
  pub keyed : IsKeyedBy heading.mode keys
  pub lines : AllByRecursion IsLine (map line_in hs)
  pub journal_is : beside.journal ≡ Some (lines_bytes (journal_lines heading hs))
  pub outputs_are : (port : ℕ) → port < ports → beside.outputs port ≡ Some (sent beside.format heading ports hs port)

-- Where a run's journal and outputs are there, they are taken for right, and nothing else is said.
abbrev pub RightIsAccepted : Type 0
RightIsAccepted = (f : Function) (keys : Option Keys) (heading : Heading) (ports : ℕ) (beside : Beside) (hs : List Handled) (state : State) (came : ReplayResult) →
    IsThere (IsRun f (keys_or_none keys) heading) keys heading ports beside hs state → Comes {E = RunFault} f keys heading ports beside (Ok came) → came ≡ Same state

-- Its first line is found there, and no other one.
pub record IsFirst (heading : Heading) (journal : Option (List ℕ)) : Type 0 where
  pub some : HasNoHeader journal → ⊥
  pub one : (other : Heading) (reading : Reading) (left : List ℕ) → IsHeading other → Stands journal (Header other ∷ []) reading (Some left) → other ≡ heading

abbrev pub FirstIsFound : Type 0
FirstIsFound = (f : Function) (keys : Option Keys) (heading : Heading) (ports : ℕ) (beside : Beside) (hs : List Handled) (state : State) →
    IsThere (IsRun f (keys_or_none keys) heading) keys heading ports beside hs state → IsFirst heading beside.journal

-- so it is of each run by a rule
abbrev pub RunsAreRight : Type 0
RunsAreRight = (rule : Rule) (f : Function) (card : Card) (given : List Arrival) (r : Run) (state : State) (answers : List Done) →
    IsRunBy rule f card given r → course_of r ≡ Some (record { state = state; answers = answers }) → IsRightRun (AreBy rule f) r state

-- and of each that ends early: a journal by its rule may begin with its packets
abbrev pub FrontsAreRight : Type 0
FrontsAreRight = (rule : Rule) (f : Function) (card : Card) (all : Option (List Arrival)) (r : Run) (state : State) (answers : List Done) →
    IsFrontOf rule f card all r → course_of r ≡ Some (record { state = state; answers = answers }) →
    IsRightRun (AreBy rule f) r state × AreFirstBy rule.order all (map arrival_of (handled_in r))

-- The other way: what is taken for a run by a rule is one that ends early.
abbrev pub TakenAreFronts : Type 0
TakenAreFronts = (rule : Rule) (f : Function) (card : Card) (all : Option (List Arrival)) (hs : List Handled) (state : State) → AreBy rule f hs state →
    AreFirstBy rule.order all (map arrival_of hs) → IsFrontOf rule f card all (run_of f rule.mode rule.workers card hs)

-- So is a run of the first packets of captures in capture order, by any rule.
abbrev pub RunsAreFronts : Type 0
RunsAreFronts = (rule : Rule) (f : Function) (card : Card) (six : List Bool) (files : List ℕ) (told : Told) (all given : List Arrival) (r : Run) →
    packets_of six files told ≡ Some all → AreFirst (Some all) given → IsRunBy rule f card given r → IsFrontOf rule f card (Some all) r

-- ---- the packets that a journal may begin with

-- The first packets of captures in capture order are the first ones of each port.
abbrev pub FirstAreOfPorts : Type 0
FirstAreOfPorts = (six : List Bool) (files : List ℕ) (told : Told) (all given : List Arrival) →
    packets_of six files told ≡ Some all → AreFirst (Some all) given → AreFirstOfPorts (Some all) given

-- A packet of another port may come before it in capture order, ..
abbrev pub OthersMayBeFirst : Type 0
OthersMayBeFirst = (a b : Arrival) → a.packet.id.port ≢ b.packet.id.port → AreFirstOfPorts (Some (a ∷ b ∷ [])) (b ∷ [])

-- .. and none of its own port
abbrev pub NoneIsPassedOver : Type 0
NoneIsPassedOver = (a b : Arrival) → a.packet.id.port ≡ b.packet.id.port → AreFirstOfPorts (Some (a ∷ b ∷ [])) (b ∷ []) → a ≡ b
