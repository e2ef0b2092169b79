-- What a user may rely on once `run` or `gen` has answered with status 0, 5 or 7, and what is known where
-- no keys were given.
use Rattle.std.specs.Prelude.{◌≡◌, ◌≢◌, ◌⊎◌, ◌%◌, ◌<◌, ℕ, ◌+◌, List, length, map, Option, Some}
use Rattle.std.specs.List.{AllByRecursion}
use Rattle.capture_format.specs.declared.format.CaptureFormat.{CaptureFormat}
use Rattle.nf_base.specs.Orders.{KeepsPortOrder}
use Rattle.nf_base.specs.Text.{Function}
use Rattle.nf_base.specs.Runs.{RunResult}
use Rattle.nf_base.specs.declared.keys.Keys.{Keys}
use Rattle.nf_base.specs.declared.card.Card.{Card}
use Rattle.nf_files.specs.Told.{Told, IsToldAs}
use Rattle.packet_feed.specs.Arrivals.{Arrival}
use Rattle.packet_feed.specs.Feeding.{AreAll, HasMore}
use Rattle.run_history.specs.StateText.{state_text}
use Rattle.toeplitz_hash.specs.Meeting.{HashAlikeWhereTheyMeet}
use Rattle.key_synth.specs.Keys.{AreGiven, NoneMayBeGiven}
use Rattle.lock_mode.specs.Gates.{Rose}
use Rattle.stream_run.specs.Runs.{Run, Turn, course_of, arrival_in}
use Rattle.stream_run.specs.Orders.{port_of}
use Rattle.stream_run.specs.Streaming.{AreFirst}
use Rattle.stream_run.specs.Texts.{file_bytes}
use Rattle.stream_run.specs.Rules.{queue_by}
use Rattle.command_words.specs.Commands.{Run as RunAsked, Gen, RunCommand, GenCommand}
use Rattle.command_words.specs.declared.command.ModeChoice.{ModeChoice}
use Rattle.command_words.specs.declared.command.ModeChoice.TheVariants.{Lock}
use Rattle.call_base.specs.declared.status.NoKeys.{NoKeys as Why}
use Rattle.call_base.specs.declared.status.Status.{Status}
use Rattle.call_base.specs.declared.status.Status.TheVariants.{Done, Usage, Refused as Rejected, FileFault, NotCapture, Torn, ShareFull, TooMany, NoKeys, Memory, Differs, ProofFails}
use Rattle.call_base.specs.Captures.{packets_under}
use Rattle.call_base.specs.Created.{IsStanding}
use Rattle.call_base.specs.Names.{output_name, journal_name, state_name}
use Rattle.call_base.specs.Outside.{Outside}
use Rattle.call_base.specs.Printed.{IsSaid}
use Rattle.call_base.specs.Source.{IsFunctionUnder}
use Rattle.gen_call.specs.Runs.{packets_for}
use Rattle.maestro_cli.specs.Answer.{Answers}

-- the statuses 0, 5 and 7: the packets were handled, all of them, or as many as may be
abbrev pub IsDone : Status → Type 0
IsDone Done = Unit {0}
IsDone (Torn port offset) = Unit {0}
IsDone (TooMany most) = Unit {0}
IsDone Usage = ⊥
IsDone (Rejected kind line column) = ⊥
IsDone (FileFault file) = ⊥
IsDone (NotCapture port) = ⊥
IsDone (ShareFull full) = ⊥
IsDone (NoKeys why) = ⊥
IsDone Memory = ⊥
IsDone (Differs at) = ⊥
IsDone (ProofFails line) = ⊥

-- ---- which packets

-- The packets of captures in capture order, where they are told: at status 7 the first so many, and there
-- are more; else all.
abbrev pub ArePackets : Status → ℕ → Option (List Arrival) → List Arrival → Type 0
ArePackets (TooMany n) most all packets = (n ≡ most) × (length packets ≡ most) × AreFirst all packets × HasMore all most
ArePackets Done most all packets = AreAll all packets
ArePackets (Torn port offset) most all packets = AreAll all packets
ArePackets Usage most all packets = ⊥
ArePackets (Rejected kind line column) most all packets = ⊥
ArePackets (FileFault file) most all packets = ⊥
ArePackets (NotCapture port) most all packets = ⊥
ArePackets (ShareFull full) most all packets = ⊥
ArePackets (NoKeys why) most all packets = ⊥
ArePackets Memory most all packets = ⊥
ArePackets (Differs at) most all packets = ⊥
ArePackets (ProofFails line) most all packets = ⊥

-- ---- in which order, and by whom

-- One worker handles each packet once, in capture order.
pub record ByOneWorker (workers : ℕ) (packets : List Arrival) (run : Run) : Type 0 where
  pub one : workers ≡ 1
  pub each_once_in_capture_order : map arrival_in run.turns ≡ packets
  pub by_worker_0 : AllByRecursion (λ (t : Turn). t.worker ≡ 0) run.turns

-- Several workers that share nothing handle each packet once, in capture order, each those of its own
-- queue. The keys are those that the function is given for the network card that is asked for, and under them any two packets that meet in any
-- run of it have equal hashes.
pub record SharingNothing (mode : ModeChoice) (workers : ℕ) (card : Card) (packets : List Arrival) (run : Run) : Type 0 where
  pub several : 1 < workers
  pub allowed : mode ≢ Lock
  pub each_once_in_capture_order : map arrival_in run.turns ≡ packets
  pub keys : Keys
  pub keys_are_given : AreGiven run.function card keys
  pub keys_hash_alike_packets_that_meet : HashAlikeWhereTheyMeet run.function keys
  pub by_their_queues : AllByRecursion (λ (t : Turn). t.worker ≡ queue_by keys workers t.arrival.packet) run.turns

-- Each packet is handled once, by the worker of its port, and those of one port in capture order.
pub record InPortOrder (workers : ℕ) (packets : List Arrival) (run : Run) : Type 0 where
  pub each_once_in_port_order : KeepsPortOrder port_of packets (map arrival_in run.turns)
  pub by_their_ports : AllByRecursion (λ (t : Turn). t.worker ≡ t.arrival.packet.id.port % workers) run.turns

-- The gate to the tables refused, and one worker handles each packet once, in capture order.
pub record WhereRefused (Refused : Type 0) (packets : List Arrival) (run : Run) : Type 0 where
  pub refused : Refused
  pub each_once_in_capture_order : map arrival_in run.turns ≡ packets
  pub by_worker_0 : AllByRecursion (λ (t : Turn). t.worker ≡ 0) run.turns

-- Several workers share the tables. Where that isn't asked for, no admissible keys of the function spread.
pub record SharingTables (Refused : Type 0) (mode : ModeChoice) (workers : ℕ) (card : Card) (packets : List Arrival) (run : Run) : Type 0 where
  pub several : 1 < workers
  pub only_where_no_keys_spread : mode ≢ Lock → NoneMayBeGiven run.function card
  pub handled : InPortOrder workers packets run ⊎ WhereRefused Refused packets run

abbrev pub AreHandled : Type 0 → ModeChoice → ℕ → Card → List Arrival → Run → Type 0
AreHandled Refused mode workers card packets run =
    ByOneWorker workers packets run
    ⊎ (SharingNothing mode workers card packets run ⊎ SharingTables Refused mode workers card packets run)

-- ---- what it leaves

-- a file was created under a name and stands there, and these bytes were given to it, and no others
pub record StandsUnder (now : Told) (name : List ℕ) (file : ℕ) (bytes : List ℕ) : Type 0 where
  pub created : IsToldAs name (now.name file)
  pub standing : IsStanding now name file
  pub whole : IsToldAs bytes (now.given file)

-- The function under a name was run over packets. Its turns, in the order of the journal's lines, are those
-- of one undivided run from empty tables, which every choice in the journal allows; the packets sent out at
-- each port and the final tables are those of this one run, and the journal's first line tells the network
-- card that is asked for. Files are numbered from one on.
pub record Headline (Gave : Function → List Arrival → Type 0) (Refused : Type 0) (mode : ModeChoice) (workers : ℕ) (card : Card) (format : CaptureFormat) (name out : List ℕ) (first : ℕ) (before now : Told) : Type 0 where
  pub run : Run
  pub function_is : IsFunctionUnder before name run.function
  pub packets : List Arrival
  pub packets_are : Gave run.function packets
  pub handled : AreHandled Refused mode workers card packets run
  pub result : RunResult
  pub one_undivided_run : course_of run ≡ Some result
  pub card_is_told : run.card ≡ card
  pub sent : (port : ℕ) → port < length run.function.handlers → StandsUnder now (output_name format out port) (first + port) (file_bytes format run port)
  pub journal : let ports = length run.function.handlers in StandsUnder now (journal_name out) (first + ports) (file_bytes format run ports)
  pub tables : let ports = length run.function.handlers in StandsUnder now (state_name out) (first + (ports + 1)) (state_text run.function result.state)

-- So it was, and then the status was told on standard error, and nothing else was done.
pub record Holds (Gave : Function → List Arrival → Type 0) (Refused : Type 0) (mode : ModeChoice) (workers : ℕ) (card : Card) (format : CaptureFormat) (name out : List ℕ) (first : ℕ) (before after : Outside) (status : Status) : Type 0 where
  pub ended : Outside
  pub headline : Headline Gave Refused mode workers card format name out first before.told ended.told
  pub said : IsSaid ended after status status

-- ---- the statements

-- Of `run`: the packets are those of the captures that stood under their names, of which IPv6 frames are
-- skipped at ports without a handler for them. The files that it creates are numbered behind the text and
-- the captures.
abbrev pub HeadlineOfRun : Type 0
HeadlineOfRun = (was is : ℕ) (c : RunAsked) (before after : Outside) (status : Status) → Answers (Rose was is) (Some (RunCommand c)) before after status → IsDone status →
    Holds (λ f packets. ArePackets status c.most (packets_under f c.captures before.told) packets) (Rose was is) c.mode c.workers c.card c.format c.function c.out (before.told.next + 1 + length c.captures) before after status

-- Of `gen`: the packets are those of the traffic that is asked for.
abbrev pub HeadlineOfGen : Type 0
HeadlineOfGen = (was is : ℕ) (c : Gen) (before after : Outside) (status : Status) → Answers (Rose was is) (Some (GenCommand c)) before after status → IsDone status →
    Holds (λ f packets. packets ≡ packets_for c f) (Rose was is) c.mode c.workers c.card c.format c.function c.out (before.told.next + 1) before after status

-- no admissible keys of the function under a name spread on a network card
pub record HasNoneToGive (told : Told) (card : Card) (name : List ℕ) : Type 0 where
  pub function : Function
  pub function_is : IsFunctionUnder told name function
  pub none : NoneMayBeGiven function card

-- Of status 8: keys are refused only where none spread.
abbrev pub OnlyWhereNoneSpread : Type 0
OnlyWhereNoneSpread = (was is : ℕ) (before after : Outside) (why : Why) →
    ((c : RunAsked) → Answers (Rose was is) (Some (RunCommand c)) before after (NoKeys why) → HasNoneToGive before.told c.card c.function)
    × ((c : Gen) → Answers (Rose was is) (Some (GenCommand c)) before after (NoKeys why) → HasNoneToGive before.told c.card c.function)
