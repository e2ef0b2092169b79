-- Files that are written side by side, each by its own buffer.
use Rattle.std.specs.Prelude.{◌<◌, ◌≡◌, ◌≢◌, ◌⊎◌, ℕ, List, [], ◌++◌, length, map, slice_get, Option, Some, None, Result, Ok, Err}
use Rattle.std.specs.List.{All}
use Rattle.nf_base.specs.declared.card.Card.{Card}
use Rattle.capture_format.specs.declared.format.CaptureFormat.{CaptureFormat}
use Rattle.nf_base.specs.declared.packet.Packet.{Packet}
use Rattle.nf_base.specs.declared.done.Done.{Done}
use Rattle.nf_files.specs.Told.{Told, IsCurrent}
use Rattle.nf_files.specs.Causes.{Counted, Faulted}
use Rattle.run_history.specs.declared.line.Mode.{Mode}
use Rattle.stream_run.specs.declared.fault.RunFault.{RunFault}
use Rattle.stream_run.specs.declared.fault.RunFault.TheVariants.{File, Memory}
use Rattle.stream_run.specs.Runs.{Handled}
use Rattle.stream_run.specs.Texts.{bytes_of, IsFrontOf}

-- a packet that a worker handled, and what it came to
abbrev pub came_to : ℕ → Packet → ℕ → List ℕ → Done → Handled
came_to worker packet original frame done = record {
  arrival = record { packet = packet; original = original; frame = frame };
  worker = worker;
  done = done;
}

-- a file, the format of the packets that are put into it, and the bytes that are still to be given to it
pub record Holding : Type 0 where
  pub file : ℕ
  pub format : CaptureFormat
  pub held : List ℕ

-- These bytes were given to a file, where that is told, but for those that are still held.
abbrev pub Holds : List ℕ → Option (List ℕ) → List ℕ → Type 0
Holds bytes None held = Unit {0}
Holds bytes (Some given) held = given ++ held ≡ bytes

-- a front of these bytes was given to a file, where that is told
abbrev pub IsFrontIfTold : List ℕ → Option (List ℕ) → Type 0
IsFrontIfTold bytes None = Unit {0}
IsFrontIfTold bytes (Some given) = IsFrontOf bytes given

-- Nothing changed but what was given to one file, and what stands under its name follows.
pub record KeepsOther (file : ℕ) (old new : Told) : Type 0 where
  pub current : (n : List ℕ) → IsCurrent old n file → IsCurrent new n file
  pub rests : (g : ℕ) → new.rest g ≡ old.rest g
  pub givens : (g : ℕ) → g ≢ file → new.given g ≡ old.given g
  pub names : (g : ℕ) → new.name g ≡ old.name g
  pub kinds : (g : ℕ) → new.kind g ≡ old.kind g
  pub contents : (n : List ℕ) → old.name file ≢ Some n → new.content n ≡ old.content n
  pub latest_same : (n : List ℕ) → new.latest n ≡ old.latest n
  pub next_same : new.next ≡ old.next

-- what giving held bytes to a file comes to: they were given or are still held, or a front was given
abbrev pub GoesOn : {T E : Type 0} → List ℕ → Option (List ℕ) → List ℕ → Result T E → Type 0
GoesOn bytes given held (Ok x) = Holds bytes given held
GoesOn bytes given held (Err e) = IsFrontIfTold bytes given

-- the count of faults of a call that can be stopped: it changes where a file failed, and there alone
abbrev pub IsStopCause : {T : Type 0} → Counted → Counted → Result T RunFault → Type 0
IsStopCause old new (Ok x) = new ≡ old
IsStopCause old new (Err Memory) = new ≡ old
IsStopCause old new (Err (File file)) = Faulted old new file

-- a call that can be stopped, by this file or for want of memory
abbrev pub StopsAt : {T : Type 0} → ℕ → Result T RunFault → Type 0
StopsAt file (Ok x) = Unit {0}
StopsAt file (Err Memory) = Unit {0}
StopsAt file (Err (File g)) = g ≡ file

-- a number stands in a list
abbrev pub IsOneOf : List ℕ → ℕ → Type 0
IsOneOf files file = (k : ℕ) × (slice_get files k ≡ Some file)

-- the same, by one of these files, or of those
abbrev pub StopsAmong : {T : Type 0} → List ℕ → List ℕ → Result T RunFault → Type 0
StopsAmong files others (Ok x) = Unit {0}
StopsAmong files others (Err Memory) = Unit {0}
StopsAmong files others (Err (File file)) = IsOneOf files file ⊎ IsOneOf others file

-- the files that are written
abbrev pub files_of : List Holding → List ℕ
files_of sinks = map (λ s. s.file) sinks

-- more is held for a file than before, behind what was held; what it is goes by the file's format
pub record IsGrown (more : CaptureFormat → List ℕ) (old : List Holding) (k : ℕ) (now : Holding) : Type 0 where
  pub before : Holding
  pub at : slice_get old k ≡ Some before
  pub file_same : now.file ≡ before.file
  pub format_same : now.format ≡ before.format
  pub held_more : now.held ≡ before.held ++ more before.format

-- so it is for each file
abbrev pub AreGrown : (ℕ → CaptureFormat → List ℕ) → List Holding → List Holding → Type 0
AreGrown more old new = (k : ℕ) (s : Holding) → slice_get new k ≡ Some s → IsGrown (more k) old k s

-- Of each file what packets leave there was given, but for what is held; the outputs are of this format.
abbrev pub AreHeld : Mode → ℕ → Card → CaptureFormat → ℕ → List Handled → Told → List Holding → Type 0
AreHeld mode workers card format ports hs told sinks =
    (k : ℕ) (s : Holding) → slice_get sinks k ≡ Some s → (s.format ≡ format) × Holds (bytes_of mode workers card format ports k hs) (told.given s.file) s.held

-- Each file was given a front of what packets leave there.
abbrev pub AreFronts : Mode → ℕ → Card → CaptureFormat → ℕ → List Handled → Told → List ℕ → Type 0
AreFronts mode workers card format ports hs told files =
    (k file : ℕ) → slice_get files k ≡ Some file → IsFrontIfTold (bytes_of mode workers card format ports k hs) (told.given file)

-- a file is this one, or another one that stands under another name
abbrev pub IsSameOrOther : Told → List ℕ → ℕ → ℕ → Type 0
IsSameOrOther told n file g = (g ≡ file) ⊎ ((g ≢ file) × (told.name g ≢ Some n))

-- Nothing changed but what was given to some files, and what stands under their names follows.
pub record KeepsAllBut (files : List ℕ) (old new : Told) : Type 0 where
  pub current : (n : List ℕ) (file : ℕ) → All (IsSameOrOther old n file) files → IsCurrent old n file → IsCurrent new n file
  pub rests : (g : ℕ) → new.rest g ≡ old.rest g
  pub givens : (g : ℕ) → All (λ f. f ≢ g) files → new.given g ≡ old.given g
  pub names : (g : ℕ) → new.name g ≡ old.name g
  pub kinds : (g : ℕ) → new.kind g ≡ old.kind g
  pub contents : (n : List ℕ) → All (λ f. old.name f ≢ Some n) files → new.content n ≡ old.content n
  pub latest_same : (n : List ℕ) → new.latest n ≡ old.latest n
  pub next_same : new.next ≡ old.next

-- what writing to all files comes to: all is held or was given, or fronts were given
abbrev pub AllGoOn : {T E : Type 0} → Mode → ℕ → Card → CaptureFormat → ℕ → List Handled → Told → List Holding → Result T E → Type 0
AllGoOn mode workers card format ports hs told sinks (Ok x) = AreHeld mode workers card format ports hs told sinks
AllGoOn mode workers card format ports hs told sinks (Err e) = AreFronts mode workers card format ports hs told (files_of sinks)

-- less than 65,536 bytes are held
abbrev pub IsLittle : Holding → Type 0
IsLittle sink = length sink.held < 65536

-- so it is of each file
abbrev pub HoldLittle : List Holding → Type 0
HoldLittle sinks = (k : ℕ) (s : Holding) → slice_get sinks k ≡ Some s → IsLittle s

-- nothing is held
abbrev pub AreEmpty : List Holding → Type 0
AreEmpty sinks = (k : ℕ) (s : Holding) → slice_get sinks k ≡ Some s → length s.held ≡ 0

-- Nothing changed but what is left of files that are read, and what was given to some files; what
-- stands under their names follows.
pub record KeepsBut (files : List ℕ) (old new : Told) : Type 0 where
  pub current : (n : List ℕ) (file : ℕ) → All (IsSameOrOther old n file) files → IsCurrent old n file → IsCurrent new n file
  pub givens : (g : ℕ) → All (λ f. f ≢ g) files → new.given g ≡ old.given g
  pub names : (g : ℕ) → new.name g ≡ old.name g
  pub kinds : (g : ℕ) → new.kind g ≡ old.kind g
  pub contents : (n : List ℕ) → All (λ f. old.name f ≢ Some n) files → new.content n ≡ old.content n
  pub latest_same : (n : List ℕ) → new.latest n ≡ old.latest n
  pub next_same : new.next ≡ old.next

-- ---- what changes of files, and what stops a call on them

-- nothing but what was given to these files changed, and a fault of them is told
pub record WroteOn {T : Type 0} (files : List ℕ) (old new : Told) (before after : Counted)
    (result : Result T RunFault) : Type 0 where
  pub kept : KeepsAllBut files old new
  pub cause : IsStopCause before after result
  pub among : StopsAmong [] files result

-- nothing but these files and what is left of captures changed, and a fault of them is told
pub record WentOn {T : Type 0} (captures files : List ℕ) (old new : Told) (before after : Counted)
    (result : Result T RunFault) : Type 0 where
  pub kept : KeepsBut files old new
  pub cause : IsStopCause before after result
  pub among : StopsAmong captures files result
