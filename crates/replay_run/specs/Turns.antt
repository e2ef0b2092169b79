-- One line more of a journal, and its packet.
use Rattle.std.specs.Prelude.{◌≡◌, ◌≢◌, ℕ, ◌+◌, ◌≤◌, Bool, true, false, List, [], ◌∷◌, ◌++◌, length, map, slice_get, option_and_then, Option, Some, None, Result, Ok, Err}
use Rattle.std.specs.List.{All, AllByRecursion}
use Rattle.capture_format.specs.declared.format.CaptureFormat.{CaptureFormat}
use Rattle.nf_base.specs.declared.card.Card.{Card}
use Rattle.nf_base.specs.declared.packet.Packet.{Packet}
use Rattle.nf_base.specs.declared.done.Done.{Done}
use Rattle.nf_base.specs.declared.state.State.{State}
use Rattle.nf_files.specs.Told.{Told}
use Rattle.packet_feed.specs.Arrivals.{Arrival}
use Rattle.packet_feed.specs.Told.{packets_of}
use Rattle.packet_feed.specs.Sources.{files_in, sixes_in}
use Rattle.packet_feed.specs.Feeding.{Feeding, StandsFor, AreAll, IsShown, shown}
use Rattle.packet_feed.specs.Ports.{StandsByPort, AreAllOf}
use Rattle.run_history.specs.Headings.{Heading}
use Rattle.run_history.specs.declared.line.Mode.{Mode}
use Rattle.run_history.specs.declared.line.Mode.TheVariants.{One, Shard, Lock}
use Rattle.run_history.specs.Lines.{IsLine}
use Rattle.run_history.specs.declared.line.JournalLine.{JournalLine}
use Rattle.run_history.specs.declared.line.JournalLine.TheVariants.{Header}
use Rattle.journal_check.specs.Judging.{port_in}
use Rattle.file_match.specs.Comparing.{Comparing}
use Rattle.journal_read.specs.Journals.{Reading, Stands, AreAllLines, AreMoreLines}
use Rattle.stream_run.specs.Runs.{Handled}
use Rattle.stream_run.specs.Texts.{bytes_of}
use Rattle.stream_run.specs.Writing.{came_to}
use Rattle.stream_run.specs.Streaming.{arrival_of}
use Rattle.replay_run.specs.Outputs.{AreFound}
use Rattle.replay_run.specs.Replaying.{RunKind, Beside, line_in, journal_lines, sent, NoneGoesOn, IsFirstWrong, IsTooMany, IsJournal}
use Rattle.replay_run.specs.declared.lines.End.{End}
use Rattle.replay_run.specs.declared.lines.End.TheVariants as end

-- no file of one list stands in the other
pub record AreClear (xs ys : List ℕ) : Type 0 where
  pub ahead : (k f : ℕ) → slice_get ys k ≡ Some f → All (λ x. x ≢ f) xs
  pub behind : (k x : ℕ) → slice_get xs k ≡ Some x → All (λ f. f ≢ x) ys

-- The captures at a start, of which nothing but the headers was read.
pub record IsStarted (start : Told) (feed : Feeding) (now : Told) : Type 0 where
  pub in_order : StandsFor start [] feed now
  pub by_port : StandsByPort start [] feed now

-- a feed stands for these packets since a start: in capture order, or in mode `lock` each port's in
-- their order
abbrev pub StandsIn : Mode → Told → List Arrival → Feeding → Told → Type 0
StandsIn One start given feed now = StandsFor start given feed now
StandsIn Shard start given feed now = StandsFor start given feed now
StandsIn Lock start given feed now = StandsByPort start given feed now

-- the packets of the captures at a start, in the order of their ports
abbrev pub packets_at : Feeding → Told → Option (List Arrival)
packets_at feed start = packets_of (sixes_in feed.sources) (files_in feed.sources) start

-- no packet comes that could have this line
abbrev pub IsNoneFor : Mode → JournalLine → Option (List Arrival) → List Arrival → Type 0
IsNoneFor One line all given = AreAll all given
IsNoneFor Shard line all given = AreAll all given
IsNoneFor Lock line all given = (port : ℕ) → port_in line ≡ Some port → AreAllOf port all given

-- in mode `lock` a line's packet is the next one of its port
abbrev pub IsPortOf : Mode → JournalLine → Packet → Type 0
IsPortOf One line packet = Unit {0}
IsPortOf Shard line packet = Unit {0}
IsPortOf Lock line packet = port_in line ≡ Some packet.id.port

-- the packet that a line has to be of; or none is left
abbrev pub Fetches : {E : Type 0} → Mode → JournalLine → Feeding → Feeding → Told → Told → Result (Option Packet) E → Type 0
Fetches mode line feed next old now (Ok (Some packet)) =
    IsPortOf mode line packet × ((start : Told) (given : List Arrival) → StandsIn mode start given feed old → StandsIn mode start (given ++ shown packet next ∷ []) next now)
Fetches mode line feed next old now (Ok None) =
    (start : Told) (given : List Arrival) → StandsIn mode start given feed old → IsNoneFor mode line (packets_at feed start) given
Fetches mode line feed next old now (Err e) = Unit {0}

-- one packet more was given where one came
abbrev pub CountsOne : {E : Type 0} → Feeding → Feeding → Result (Option Packet) E → Type 0
CountsOne old new (Ok (Some packet)) = (new.given ≡ old.given + 1) × IsShown packet new
CountsOne old new (Ok None) = Unit {0}
CountsOne old new (Err e) = Unit {0}

-- what a packet left was compared with the outputs
abbrev pub Compares : CaptureFormat → Handled → List Comparing → List Comparing → Told → Told → Type 0
Compares format h held found old now =
    (start : ℕ → Option (List ℕ)) (mode : Mode) (workers : ℕ) (card : Card) (ports : ℕ) (hs : List Handled) → length held ≤ ports →
    AreFound (λ k. bytes_of mode workers card format ports k hs) start held old → AreFound (λ k. bytes_of mode workers card format ports k (hs ++ h ∷ [])) start found now

-- A line's packet was handled: it came next, the run goes on with it, and what it left was compared.
pub record IsTurn (Run : RunKind) (mode : Mode) (format : CaptureFormat) (line : JournalLine) (before after : State) (feed next : Feeding) (old now : Told) (held found : List Comparing) : Type 0 where
  pub packet : Packet
  pub original : ℕ
  pub frame : List ℕ
  pub done : Done
  pub worker : ℕ
  pub is_line : line_in (came_to worker packet original frame done) ≡ line
  pub runs : (hs : List Handled) → Run hs before → Run (hs ++ came_to worker packet original frame done ∷ []) after
  pub feeds : (start : Told) (given : List Arrival) → StandsIn mode start given feed old → StandsIn mode start (given ++ arrival_of (came_to worker packet original frame done) ∷ []) next now
  pub compares : Compares format (came_to worker packet original frame done) held found old now

-- a line's packet was handled, or the packet that comes next has no such line
abbrev pub Turns : {E : Type 0} → RunKind → Mode → CaptureFormat → JournalLine → State → State → Feeding → Feeding → Told → Told → List Comparing → List Comparing → Result Bool E → Type 0
Turns Run mode format line before after feed next old now held found (Ok true) = IsTurn Run mode format line before after feed next old now held found
Turns Run mode format line before after feed next old now held found (Ok false) =
    (start : Told) (hs : List Handled) → Run hs before → StandsIn mode start (map arrival_of hs) feed old → NoneGoesOn Run mode (packets_at feed start) hs (λ l. l ≡ line)
Turns Run mode format line before after feed next old now held found (Err e) = Unit {0}

-- one packet more was given where a line's packet was handled
abbrev pub Counts : {E : Type 0} → Feeding → Feeding → Result Bool E → Type 0
Counts old new (Ok true) = new.given ≡ old.given + 1
Counts old new (Ok false) = Unit {0}
Counts old new (Err e) = Unit {0}

-- Captures and a journal at a start, of which no packet and the first line alone were read.
pub record Begins (heading : Heading) (feed : Feeding) (journal : Reading) (start : Told) (bytes : Option (List ℕ)) (now : Told) : Type 0 where
  pub captures : IsStarted start feed now
  pub lines : Stands bytes (Header heading ∷ []) journal (now.rest journal.file)

-- what is left of the file at a place in a list
abbrev pub rest_at : Told → List ℕ → ℕ → Option (List ℕ)
rest_at now files k = option_and_then (λ file. now.rest file) (slice_get files k)

-- what a journal is read beside
abbrev pub beside_of : CaptureFormat → Feeding → Told → Option (List ℕ) → List ℕ → Told → ℕ → Beside
beside_of format feed start bytes outputs now most = record { packets = packets_at feed start; journal = bytes; outputs = rest_at now outputs; format = format; most = most }

-- The lines so far are those of these packets, which were compared with the outputs.
pub record Reaches (Run : RunKind) (heading : Heading) (format : CaptureFormat) (ports : ℕ) (start : Told) (bytes : Option (List ℕ)) (rest : ℕ → Option (List ℕ))
    (feed : Feeding) (journal : Reading) (file : ℕ) (now : Told) (found : List Comparing) (state : State) : Type 0 where
  pub hs : List Handled
  pub run : Run hs state
  pub captures : StandsIn heading.mode start (map arrival_of hs) feed now
  pub lines : Stands bytes (journal_lines heading hs) journal (now.rest file)
  pub are_lines : AllByRecursion IsLine (map line_in hs)
  pub compared : AreFound (sent format heading ports hs) rest found now
  pub count : length hs ≡ feed.given

-- How reading all lines ended: with the last one, with too many, or with one that is wrong.
pub record IsOver (Run : RunKind) (heading : Heading) (ports : ℕ) (beside : Beside) (rest : ℕ → Option (List ℕ)) (now : Told) (found : List Comparing) (state : State) : Type 0 where
  pub hs : List Handled
  pub journal_is : IsJournal Run heading beside hs state
  pub compared : AreFound (sent beside.format heading ports hs) rest found now

abbrev pub Reads : {E : Type 0} → RunKind → Heading → ℕ → Beside → (ℕ → Option (List ℕ)) → Told → List Comparing → State → Result End E → Type 0
Reads Run heading ports beside rest now found state (Ok end.Over) = IsOver Run heading ports beside rest now found state
Reads Run heading ports beside rest now found state (Ok end.TooMany) = IsTooMany Run heading beside
Reads Run heading ports beside rest now found state (Ok (end.Wrong line)) = IsFirstWrong Run heading beside line
Reads Run heading ports beside rest now found state (Err e) = Unit {0}

-- whether a journal has more behind its lines
abbrev pub IsEnd : {E : Type 0} → Option (List ℕ) → List JournalLine → Result End E → Type 0
IsEnd start lines (Ok end.Over) = AreAllLines start lines
IsEnd start lines (Ok end.TooMany) = AreMoreLines start lines
IsEnd start lines (Ok (end.Wrong line)) = ⊥
IsEnd start lines (Err e) = Unit {0}

-- no line was found to be wrong
abbrev pub IsNotWrong : {E : Type 0} → Result End E → Type 0
IsNotWrong (Ok end.Over) = Unit {0}
IsNotWrong (Ok end.TooMany) = Unit {0}
IsNotWrong (Ok (end.Wrong line)) = ⊥
IsNotWrong (Err e) = Unit {0}
