-- How far a replay came, before its end.
use Rattle.std.specs.Prelude.{◌≡◌, ℕ, ◌+◌, ◌≤◌, List, [], ◌∷◌, length, Option, Some, slice_get}
use Rattle.nf_base.specs.Functions.{function_of}
use Rattle.nf_base.specs.Text.{Function}
use Rattle.nf_base.specs.declared.keys.Keys.{Keys}
use Rattle.nf_base.specs.declared.card.Card.{Card}
use Rattle.nf_files.specs.Causes.{asking}
use Rattle.nf_files.specs.Reads.{Keeps}
use Rattle.packet_feed.specs.Feeding.{Feeding}
use Rattle.key_synth.specs.declared.verdict.Verdict.{Verdict}
use Rattle.key_synth.specs.Verdicts.{IsVerdict}
use Rattle.run_history.specs.Headings.{IsHeading}
use Rattle.run_history.specs.declared.line.JournalLine.TheVariants.{Header}
use Rattle.journal_read.specs.Journals.{Stands}
use Rattle.replay_run.specs.declared.opened.OpenedJournal.{OpenedJournal}
use Rattle.replay_run.specs.declared.result.ReplayResult.{ReplayResult}
use Rattle.replay_run.specs.Turns.{IsStarted}
use Rattle.command_words.specs.Commands.{Replay}
use Rattle.command_words.specs.View as view
use Rattle.call_base.specs.declared.layout.FileOrder.TheVariants.{Read}
use Rattle.call_base.specs.Names.{output_name}
use Rattle.call_base.specs.Outside.{Outside, HasOnlyAsked}
use Rattle.call_base.specs.Reading as reads
use Rattle.call_base.specs.Reading.{Reads}
use Rattle.call_base.specs.Source.{HasFewPaths}
use Rattle.replay_call.specs.declared.job.Job.{Job}
use Rattle.replay_call.specs.Names.{asked_by}
use Rattle.replay_call.specs.Contents.{HasPorts, HasReplayed, keys_by}

-- these are the keys that a function is given for a network card, or it is given none
pub record AreKeysOf (f : Function) (card : Card) (keys : Option Keys) : Type 0 where
  pub verdict : Verdict
  pub is_verdict : IsVerdict f card verdict
  pub same : keys_by verdict ≡ keys

abbrev pub asked : Job → Replay
asked job = view.replay job.command.now

abbrev pub ports_of : Job → ℕ
ports_of job = length (asked job).captures

-- what a replay reads first
abbrev pub reads_of : Replay → Reads
reads_of c = record { text = c.function; captures = c.captures; most = c.most }

-- how many ports a job has: as many as captures and handlers; and few paths bound the work on its keys
pub record IsSized (job : Job) : Type 0 where
  pub handlers : length job.func.now.handlers ≡ job.layout.ports
  pub captures : length job.command.now.captures.items ≡ job.layout.ports
  pub opened : job.layout.captures ≡ job.layout.ports
  pub behind : job.layout.behind ≡ Read
  pub some : 1 ≤ job.layout.ports
  pub few : job.layout.ports ≤ 4
  pub from_two : 2 ≤ job.layout.first
  pub paths : HasFewPaths (function_of job.func.now)

-- what a job is: the replay that a command asks for, with its function and the number of its first file
pub record IsJob (before : Outside) (job : Job) : Type 0 where
  pub has_ports : HasPorts (asked job) before.told (function_of job.func.now)
  pub first : job.layout.first ≡ before.told.next

-- the captures of a job were read
abbrev pub HasFed : Outside → Outside → Job → List ℕ → Feeding → Type 0
HasFed before now job captures feed = reads.HasFed (reads_of (asked job)) (function_of job.func.now) before now captures feed

-- The journal and the outputs were opened, and nothing was read of them yet.
pub record HasReady (before now : Outside) (job : Job) (captures : List ℕ) (feed : Feeding) (journal : ℕ) (outputs : List ℕ) : Type 0 where
  pub mid : Outside
  pub fed : HasFed before mid job captures feed
  pub started : IsStarted fed.old.told feed now.told
  pub journal_at : journal ≡ before.told.next + 1 + ports_of job
  pub outputs_at : (i f : ℕ) → slice_get outputs i ≡ Some f → f ≡ before.told.next + 1 + ports_of job + (1 + i)
  pub journal_is : now.told.rest journal ≡ before.told.content (asked job).journal
  pub outputs_are : (i f : ℕ) → slice_get outputs i ≡ Some f → now.told.rest f ≡ before.told.content (output_name (asked job).format (asked job).out i)
  pub only : HasOnlyAsked (asked_by (asked job)) before now

-- The journal's first line was read, and nothing of the outputs yet.
pub record HasBegun (before now : Outside) (job : Job) (captures : List ℕ) (feed : Feeding) (begun : OpenedJournal) (outputs : List ℕ) : Type 0 where
  pub old : Outside
  pub ready : HasReady before old job captures feed begun.lines.file outputs
  pub kept : Keeps old.told now.told begun.lines.file
  pub counted : now.counted ≡ old.counted
  pub is_heading : IsHeading begun.header
  pub lines : Stands (old.told.rest begun.lines.file) (Header begun.header ∷ []) begun.lines (now.told.rest begun.lines.file)

-- The journal and the outputs were judged.
pub record HasCome (before now : Outside) (job : Job) (came : ReplayResult) : Type 0 where
  pub replayed : HasReplayed (asked job) before.told (function_of job.func.now) came
  pub contents : (n : List ℕ) → now.told.content n ≡ before.told.content n
  pub stdout : now.told.given 0 ≡ before.told.given 0
  pub stderr : now.told.given 1 ≡ before.told.given 1
  pub asked_for : now.counted ≡ asking (asked_by (asked job)) before.counted
