-- What packets leave, made by chunks of them, and then written one chunk after another.
use Rattle.std.specs.Prelude.{◌≡◌, ◌+◌, ◌*◌, ℕ, List, [], length, take, drop, slice_get, Some, Result, Ok, Err}
use Rattle.std.specs.List.{flat_map}
use Rattle.std.specs.Bool.{OnTrue}
use Rattle.nf_base.specs.declared.card.Card.{Card}
use Rattle.capture_format.specs.declared.format.CaptureFormat.{CaptureFormat}
use Rattle.nf_files.specs.Told.{Told}
use Rattle.nf_files.specs.Causes.{Counted}
use Rattle.run_history.specs.declared.line.Mode.{Mode}
use Rattle.stream_run.specs.Runs.{Handled}
use Rattle.stream_run.specs.Texts.{piece}
use Rattle.stream_run.specs.declared.fault.RunFault.{RunFault}
use Rattle.stream_run.specs.Writing.{Holding, files_of, AreFronts, KeepsBut, IsStopCause, StopsAmong}
use Rattle.locked_run.specs.declared.chunk.Chunk.{Chunk}
use Rattle.locked_run.specs.Going.{AreWhole}

-- so many packets of a list, from one on, as far as there are some
abbrev pub chunk_at : List Handled → ℕ → ℕ → List Handled
chunk_at all from size = take size (drop from all)

-- for each file what these packets leave there is held, and no more; the outputs are of this format
abbrev pub HoldPieces : CaptureFormat → ℕ → List Handled → List Holding → Type 0
HoldPieces format ports hs sinks =
    (k : ℕ) (s : Holding) → slice_get sinks k ≡ Some s →
    (s.format ≡ format) × (s.held ≡ flat_map (piece format ports k) hs)

-- nothing is held
abbrev pub AreBare : CaptureFormat → List Holding → Type 0
AreBare format sinks =
    (k : ℕ) (s : Holding) → slice_get sinks k ≡ Some s → (s.format ≡ format) × (s.held ≡ [])

-- what these packets leave was made, where there was memory for it and nothing was held before
pub record IsFilled (ports : ℕ) (hs : List Handled) (old new : Chunk) : Type 0 where
  pub same_files : files_of new.sinks ≡ files_of old.sinks
  pub holds : OnTrue new.made ((format : CaptureFormat) →
      AreBare format old.sinks → HoldPieces format ports hs new.sinks)

-- so it is of each chunk, with the packets one chunk after another
pub record AreFilled (ports : ℕ) (all : List Handled) (from size : ℕ) (old new : List Chunk)
    : Type 0 where
  pub count : length new ≡ length old
  pub each : (i : ℕ) (before after : Chunk) →
      slice_get old i ≡ Some before → slice_get new i ≡ Some after →
      IsFilled ports (chunk_at all (from + i * size) size) before after

-- chunks for these files
abbrev pub AreOf : List ℕ → List Chunk → Type 0
AreOf files chunks = (i : ℕ) (c : Chunk) → slice_get chunks i ≡ Some c → files_of c.sinks ≡ files

-- chunks in which nothing is held
abbrev pub AreIdle : CaptureFormat → List Chunk → Type 0
AreIdle format chunks = (i : ℕ) (c : Chunk) → slice_get chunks i ≡ Some c → AreBare format c.sinks

-- what the packets one chunk after another leave is held, where there was memory for it
abbrev pub HoldAll : CaptureFormat → ℕ → List Handled → ℕ → ℕ → List Chunk → Type 0
HoldAll format ports all from size chunks =
    (i : ℕ) (c : Chunk) → slice_get chunks i ≡ Some c →
    OnTrue c.made (HoldPieces format ports (chunk_at all (from + i * size) size) c.sinks)

-- what writing chunks comes to: so many packets are written then, and nothing is held; or fronts
-- are
abbrev pub GoOnTo : {T E : Type 0} → Mode → ℕ → Card → CaptureFormat → ℕ → List Handled → ℕ →
    Told → List ℕ → List Chunk → Result T E → Type 0
GoOnTo mode workers card format ports all next now files chunks (Ok x) =
    AreWhole mode workers card format ports (take next all) now files × AreIdle format chunks
GoOnTo mode workers card format ports all next now files chunks (Err e) =
    AreFronts mode workers card format ports all now files

-- Chunks were given to these files, one after another: what was counted and told before and after it,
-- and what is held then.
pub record AreGiven {T : Type 0} (counted counts : Counted) (was now : Told) (files : List ℕ)
    (before after : List Chunk) (result : Result T RunFault) : Type 0 where
  pub goes_on : (mode : Mode) (workers : ℕ) (card : Card) (format : CaptureFormat) (ports : ℕ)
      (all : List Handled) (from size : ℕ) → HoldAll format ports all from size before →
      AreWhole mode workers card format ports (take from all) was files →
      GoOnTo mode workers card format ports all (from + length before * size) now files after result
  pub as_many : length after ≡ length before
  pub same_files : AreOf files after
  pub kept : KeepsBut files was now
  pub cause : IsStopCause counted counts result
  pub among : StopsAmong [] files result
