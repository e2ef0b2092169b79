-- A run of captures in mode `shard`, and what it leaves.
use Rattle.std.specs.Prelude.{◌≡◌, ◌≤◌, ◌<◌, ℕ, List, [], length, map, slice_get, Some, Result, Ok, Err}
use Rattle.nf_base.specs.declared.card.Card.{Card}
use Rattle.capture_format.specs.declared.format.CaptureFormat.{CaptureFormat}
use Rattle.nf_base.specs.declared.done.Done.{Done}
use Rattle.nf_base.specs.declared.keys.Keys.{Keys}
use Rattle.nf_base.specs.Text.{Function}
use Rattle.nf_files.specs.Told.{Told, IsToldAs}
use Rattle.packet_feed.specs.Told.{packets_of}
use Rattle.packet_feed.specs.Sources.{files_in, sixes_in}
use Rattle.packet_feed.specs.Feeding.{Feeding, StandsFor}
use Rattle.stream_run.specs.declared.ran.Ran.{Ran}
use Rattle.stream_run.specs.declared.fault.RunFault.{RunFault}
use Rattle.stream_run.specs.Runs.{Run, course_of, arrival_in}
use Rattle.stream_run.specs.Texts.{file_bytes}
use Rattle.stream_run.specs.Writing.{IsFrontIfTold}
use Rattle.stream_run.specs.Streaming.{AreFirst}
use Rattle.stream_run.specs.Lawful.{AreTheFirst, EndsSo}
use Rattle.sharded_run.specs.declared.result.ShareFull.{ShareFull}
use Rattle.sharded_run.specs.declared.result.ShardedResult as came
use Rattle.sharded_run.specs.declared.result.ShardedResult.TheVariants as outcome
use Rattle.stream_run.specs.Rules.{shard_rule, IsRunBy}
use Rattle.sharded_run.specs.Sharded.{IsStopBehind, AreBefore}

-- The run's packets are the first ones of the captures in capture order, at most so many. Its files are
-- whole, its last state is told, and how it ended.
pub record IsFinished (f : Function) (keys : Keys) (workers : ℕ) (card : Card) (format : CaptureFormat) (begun : Feeding) (start : Told) (feed : Feeding) (now : Told) (files : List ℕ) (ran : Ran) : Type 0 where
  pub run : Run
  pub is_run : IsRunBy (shard_rule keys workers) f card (map arrival_in run.turns) run
  pub within : length run.turns ≤ begun.most
  pub packets : (before : Told) → StandsFor before [] begun start → AreTheFirst begun.most (packets_of (sixes_in begun.sources) (files_in begun.sources) before) (map arrival_in run.turns)
  pub ending : (before : Told) → StandsFor before [] begun start → EndsSo ran.ending feed before (map arrival_in run.turns)
  pub same_files : files_in feed.sources ≡ files_in begun.sources
  pub same_six : sixes_in feed.sources ≡ sixes_in begun.sources
  pub same_most : feed.most ≡ begun.most
  pub count : length run.turns ≡ ran.packets
  pub left : (answers : List Done) × (course_of run ≡ Some (record { state = ran.state; answers = answers }))
  pub wholes : (k file : ℕ) → slice_get files k ≡ Some file → IsToldAs (file_bytes format run k) (now.given file)

-- The run's packets are those before the packet at which a share has no index left, and its files are
-- whole.
pub record IsFull (f : Function) (keys : Keys) (workers : ℕ) (card : Card) (format : CaptureFormat) (begun : Feeding) (start now : Told) (files : List ℕ) (full : ShareFull) : Type 0 where
  pub run : Run
  pub is_run : IsRunBy (shard_rule keys workers) f card (map arrival_in run.turns) run
  pub stops : IsStopBehind f keys workers run full.stop
  pub within : length run.turns < begun.most
  pub packets : (before : Told) → StandsFor before [] begun start → AreBefore (packets_of (sixes_in begun.sources) (files_in begun.sources) before) (map arrival_in run.turns) full.stop.packet
  pub count : length run.turns ≡ full.packets
  pub wholes : (k file : ℕ) → slice_get files k ≡ Some file → IsToldAs (file_bytes format run k) (now.given file)

-- The run was stopped. Each file holds a front of what a run over some first packets of the captures
-- leaves there.
pub record IsCutShort (f : Function) (keys : Keys) (workers : ℕ) (card : Card) (format : CaptureFormat) (begun : Feeding) (start now : Told) (files : List ℕ) : Type 0 where
  pub run : Run
  pub is_run : IsRunBy (shard_rule keys workers) f card (map arrival_in run.turns) run
  pub within : length run.turns ≤ begun.most
  pub packets : (before : Told) → StandsFor before [] begun start → AreFirst (packets_of (sixes_in begun.sources) (files_in begun.sources) before) (map arrival_in run.turns)
  pub fronts : (k file : ℕ) → slice_get files k ≡ Some file → IsFrontIfTold (file_bytes format run k) (now.given file)

-- what a run comes to
abbrev pub Runs : Function → Keys → ℕ → Card → CaptureFormat → Feeding → Told → Feeding → Told → List ℕ → Result came.ShardedResult RunFault → Type 0
Runs f keys workers card format begun start feed now files (Ok (outcome.Ran ran)) = IsFinished f keys workers card format begun start feed now files ran
Runs f keys workers card format begun start feed now files (Ok (outcome.Full full)) = IsFull f keys workers card format begun start now files full
Runs f keys workers card format begun start feed now files (Err stop) = IsCutShort f keys workers card format begun start now files
