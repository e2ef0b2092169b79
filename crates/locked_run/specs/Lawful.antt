-- A run of captures in mode `lock`, and what it leaves.
use Rattle.std.specs.Prelude.{◌≡◌, ◌≤◌, ℕ, List, [], length, slice_get, Some, Result, Ok, Err}
use Rattle.nf_base.specs.declared.card.Card.{Card}
use Rattle.capture_format.specs.declared.format.CaptureFormat.{CaptureFormat}
use Rattle.nf_base.specs.declared.done.Done.{Done}
use Rattle.nf_base.specs.Text.{Function}
use Rattle.nf_files.specs.Told.{Told, IsToldAs}
use Rattle.packet_feed.specs.Arrivals.{Arrival}
use Rattle.packet_feed.specs.Told.{packets_of}
use Rattle.packet_feed.specs.Sources.{files_in, sixes_in}
use Rattle.packet_feed.specs.Feeding.{Feeding, StandsFor}
use Rattle.stream_run.specs.declared.fault.RunFault.{RunFault}
use Rattle.stream_run.specs.Runs.{Run, course_of}
use Rattle.stream_run.specs.Rules.{Rule, IsRunBy}
use Rattle.stream_run.specs.Texts.{file_bytes}
use Rattle.stream_run.specs.Writing.{IsFrontIfTold}
use Rattle.stream_run.specs.Streaming.{AreFirst}
use Rattle.stream_run.specs.Lawful.{AreTheFirst, EndsSo}
use Rattle.locked_run.specs.declared.result.LockedResult.{LockedResult}
use Rattle.locked_run.specs.Locked.{IsDue}

-- The packets that were given are the first ones of the captures in capture order, at most so many,
-- and the run's are these. Its files are whole, its last state is told, and how it ended.
pub record IsFinished (f : Function) (workers : ℕ) (card : Card) (format : CaptureFormat)
    (Refused : Type 0) (begun : Feeding) (start : Told) (feed : Feeding) (now : Told)
    (files : List ℕ) (came : LockedResult) : Type 0 where
  pub run : Run
  pub given : List Arrival
  pub rule : Rule
  pub due : IsDue workers Refused rule
  pub is_run : IsRunBy rule f card given run
  pub mode_is : came.mode ≡ rule.mode
  pub within : length given ≤ begun.most
  pub packets : (before : Told) → StandsFor before [] begun start → AreTheFirst begun.most
      (packets_of (sixes_in begun.sources) (files_in begun.sources) before) given
  pub ending : (before : Told) → StandsFor before [] begun start →
      EndsSo came.ran.ending feed before given
  pub same_files : files_in feed.sources ≡ files_in begun.sources
  pub same_six : sixes_in feed.sources ≡ sixes_in begun.sources
  pub same_most : feed.most ≡ begun.most
  pub count : length run.turns ≡ came.ran.packets
  pub left : (answers : List Done)
      × (course_of run ≡ Some (record { state = came.ran.state; answers = answers }))
  pub wholes : (k file : ℕ) → slice_get files k ≡ Some file →
      IsToldAs (file_bytes format run k) (now.given file)

-- The run was stopped. Each file holds a front of what a run over some first packets of the
-- captures leaves there.
pub record IsCutShort (f : Function) (workers : ℕ) (card : Card) (format : CaptureFormat)
    (Refused : Type 0) (begun : Feeding) (start now : Told) (files : List ℕ) : Type 0 where
  pub run : Run
  pub given : List Arrival
  pub rule : Rule
  pub due : IsDue workers Refused rule
  pub is_run : IsRunBy rule f card given run
  pub within : length given ≤ begun.most
  pub packets : (before : Told) → StandsFor before [] begun start → AreFirst
      (packets_of (sixes_in begun.sources) (files_in begun.sources) before) given
  pub fronts : (k file : ℕ) → slice_get files k ≡ Some file →
      IsFrontIfTold (file_bytes format run k) (now.given file)

-- what a run comes to
abbrev pub Runs : Function → ℕ → Card → CaptureFormat → Type 0 → Feeding → Told → Feeding → Told →
    List ℕ → Result LockedResult RunFault → Type 0
Runs f workers card format Refused begun start feed now files (Ok came) =
    IsFinished f workers card format Refused begun start feed now files came
Runs f workers card format Refused begun start feed now files (Err stop) =
    IsCutShort f workers card format Refused begun start now files
