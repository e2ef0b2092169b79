-- A journal that is read beside captures and outputs: the packets that its lines are of.
use Rattle.std.specs.Prelude.{◌≡◌, ◌≢◌, ℕ, ◌+◌, ◌<◌, ◌≤◌, List, [], ◌∷◌, ◌++◌, length, map, Option, Some, None, Result, Ok, Err}
use Rattle.std.specs.List.{AllByRecursion}
use Rattle.capture_format.specs.declared.format.CaptureFormat.{CaptureFormat}
use Rattle.nf_base.specs.Text.{Function}
use Rattle.nf_base.specs.declared.state.State.{State}
use Rattle.nf_files.specs.Told.{IsToldAs}
use Rattle.packet_feed.specs.Arrivals.{Arrival}
use Rattle.run_history.specs.Headings.{Heading}
use Rattle.run_history.specs.declared.line.Mode.{Mode}
use Rattle.run_history.specs.declared.line.JournalLine.{JournalLine}
use Rattle.run_history.specs.declared.line.JournalLine.TheVariants.{Header, Packet}
use Rattle.run_history.specs.Line.{line_bytes}
use Rattle.run_history.specs.Lines.{IsLine}
use Rattle.file_match.specs.Comparing.{IsOtherIfTold}
use Rattle.journal_read.specs.Journals.{lines_bytes, AreAllLines, AreMoreLines}
use Rattle.nf_base.specs.declared.keys.Keys.{Keys}
use Rattle.stream_run.specs.Runs.{Handled}
use Rattle.stream_run.specs.Orders.{AreFirstBy}
use Rattle.stream_run.specs.Rules.{rule_in, order_in, AreBy}
use Rattle.stream_run.specs.Texts.{bytes_of}
use Rattle.stream_run.specs.Streaming.{arrival_of}
use Rattle.replay_run.specs.Outputs.{AreTold, IsLeastOther}
use Rattle.replay_run.specs.declared.result.ReplayResult.{ReplayResult}
use Rattle.replay_run.specs.declared.result.ReplayResult.TheVariants.{Same, TooMany, Line, Output}

-- a handled packet's line
abbrev pub line_in : Handled → JournalLine
line_in h = Packet h.arrival.packet.id h.worker h.done.action h.done.picks

-- a whole journal's lines
abbrev pub journal_lines : Heading → List Handled → List JournalLine
journal_lines heading hs = Header heading ∷ map line_in hs

-- which packets, with what they came to, are a run that leaves a state
abbrev pub RunKind : Type 1
RunKind = List Handled → State → Type 0

-- The runs that a journal may be of: those by the rule that its first line tells.
abbrev pub IsRun : Function → Keys → Heading → List Handled → State → Type 0
IsRun f keys heading hs state = AreBy (rule_in heading.mode heading.workers keys) f hs state

-- Which packets a journal may begin with, of all that captures hold: the first ones in capture order; in
-- mode `lock`, whose journals are in the order in which workers came to their packets, the first ones of
-- each port.
abbrev pub AreFirstIn : Mode → Option (List Arrival) → List Arrival → Type 0
AreFirstIn mode all given = AreFirstBy (order_in mode) all given

-- With one packet more these are not the packets that a run begins with, where all are told: the packet
-- that would come next has no such line.
abbrev pub NoneGoesOn : RunKind → Mode → Option (List Arrival) → List Handled → (JournalLine → Type 0) → Type 0
NoneGoesOn Run mode None hs IsNext = Unit {0}
NoneGoesOn Run mode (Some all) hs IsNext =
    (h : Handled) (s : State) → IsNext (line_in h) → AreFirstIn mode (Some all) (map arrival_of (hs ++ h ∷ [])) → Run (hs ++ h ∷ []) s → ⊥

-- a line that bytes begin with
abbrev pub BeginsWith : List ℕ → JournalLine → Type 0
BeginsWith bytes line = IsLine line × ((later : List ℕ) × (line_bytes line ++ later ≡ bytes))

-- Behind the lines of these packets a journal has more, and no run goes on so.
pub record IsWrongBehind (Run : RunKind) (heading : Heading) (packets : Option (List Arrival)) (hs : List Handled) (all : List ℕ) : Type 0 where
  pub rest : List ℕ
  pub behind : all ≡ lines_bytes (journal_lines heading hs) ++ rest
  pub some : rest ≢ []
  pub none : NoneGoesOn Run heading.mode packets hs (BeginsWith rest)

-- the same, where the journal is told
abbrev pub IsWrong : RunKind → Heading → Option (List Arrival) → List Handled → Option (List ℕ) → Type 0
IsWrong Run heading packets hs None = Unit {0}
IsWrong Run heading packets hs (Some all) = IsWrongBehind Run heading packets hs all

-- What a journal is read beside, where it is told: the packets of the captures, the journal's own bytes,
-- and the bytes of the outputs by port; the format in which outputs are to be, and how many lines of
-- packets are judged at most.
pub record Beside : Type 0 where
  pub packets : Option (List Arrival)
  pub journal : Option (List ℕ)
  pub outputs : ℕ → Option (List ℕ)
  pub format : CaptureFormat
  pub most : ℕ

-- Lines are right: those of a run of the packets that a journal may begin with, and each is one that a
-- journal may have.
pub record IsRight (Run : RunKind) (heading : Heading) (beside : Beside) (hs : List Handled) (state : State) : Type 0 where
  pub run : Run hs state
  pub within : length hs ≤ beside.most
  pub first : AreFirstIn heading.mode beside.packets (map arrival_of hs)
  pub lines : AllByRecursion IsLine (map line_in hs)

-- what outputs of a format hold, by port
abbrev pub sent : CaptureFormat → Heading → ℕ → List Handled → ℕ → List ℕ
sent format heading ports hs port = bytes_of heading.mode heading.workers heading.card format ports port hs

-- the outputs of these ports hold these bytes, where they are told
abbrev pub AreSent : (ℕ → List ℕ) → (ℕ → Option (List ℕ)) → ℕ → Type 0
AreSent bytes outputs ports = (port : ℕ) → port < ports → IsToldAs (bytes port) (outputs port)

-- The output of a port doesn't, and those of all lesser ports do.
pub record IsLeastUnsent (bytes : ℕ → List ℕ) (outputs : ℕ → Option (List ℕ)) (ports port : ℕ) : Type 0 where
  pub inside : port < ports
  pub other : IsOtherIfTold (bytes port) (outputs port)
  pub lesser : AreSent bytes outputs port

-- The whole journal is right.
pub record IsJournal (Run : RunKind) (heading : Heading) (beside : Beside) (hs : List Handled) (state : State) : Type 0 where
  pub right : IsRight Run heading beside hs state
  pub whole : AreAllLines beside.journal (journal_lines heading hs)

-- and the outputs are those of its run
pub record IsSame (Run : RunKind) (heading : Heading) (ports : ℕ) (beside : Beside) (state : State) : Type 0 where
  pub hs : List Handled
  pub journal_is : IsJournal Run heading beside hs state
  pub outputs_are : AreSent (sent beside.format heading ports hs) beside.outputs ports

-- and the output of a port isn't
pub record IsOther (Run : RunKind) (heading : Heading) (ports : ℕ) (beside : Beside) (port : ℕ) : Type 0 where
  pub hs : List Handled
  pub state : State
  pub journal_is : IsJournal Run heading beside hs state
  pub other : IsLeastUnsent (sent beside.format heading ports hs) beside.outputs ports port

-- As many lines as were asked for are right, and there is more.
pub record IsTooMany (Run : RunKind) (heading : Heading) (beside : Beside) : Type 0 where
  pub hs : List Handled
  pub state : State
  pub right : IsRight Run heading beside hs state
  pub count : length hs ≡ beside.most
  pub more : AreMoreLines beside.journal (journal_lines heading hs)

-- The lines before this one are right, and this one isn't, the first line being number 1.
pub record IsFirstWrong (Run : RunKind) (heading : Heading) (beside : Beside) (line : ℕ) : Type 0 where
  pub hs : List Handled
  pub state : State
  pub right : IsRight Run heading beside hs state
  pub fewer : length hs < beside.most
  pub number : line ≡ length hs + 2
  pub wrong : IsWrong Run heading beside.packets hs beside.journal

-- what a replay comes to, of a journal whose first line is right
abbrev pub Replays : {E : Type 0} → RunKind → Heading → ℕ → Beside → Result ReplayResult E → Type 0
Replays Run heading ports beside (Ok (Same state)) = IsSame Run heading ports beside state
Replays Run heading ports beside (Ok TooMany) = IsTooMany Run heading beside
Replays Run heading ports beside (Ok (Line line)) = IsFirstWrong Run heading beside line
Replays Run heading ports beside (Ok (Output port)) = IsOther Run heading ports beside port
Replays Run heading ports beside (Err e) = Unit {0}

-- what comparing the outputs to their ends comes to, where all lines are right and left this state
abbrev pub Finishes : {E : Type 0} → (ℕ → List ℕ) → (ℕ → Option (List ℕ)) → List ℕ → State → Result ReplayResult E → Type 0
Finishes bytes start outputs state (Ok (Same left)) = (left ≡ state) × AreTold bytes start outputs
Finishes bytes start outputs state (Ok TooMany) = ⊥
Finishes bytes start outputs state (Ok (Line line)) = ⊥
Finishes bytes start outputs state (Ok (Output port)) = IsLeastOther bytes start outputs port
Finishes bytes start outputs state (Err e) = Unit {0}
