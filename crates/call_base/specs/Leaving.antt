-- What a run leaves: its files, and the lines on it.
use Rattle.std.specs.Prelude.{◌≡◌, ◌⊎◌, ℕ, ◌+◌, ◌<◌, ◌≤◌, List, [], ◌∷◌, ◌++◌, length, None, Result, Ok, Err}
use Rattle.capture_format.specs.declared.format.CaptureFormat.{CaptureFormat}
use Rattle.nf_files.specs.Told.{Same}
use Rattle.nf_files.specs.Causes.{Asked, asking}
use Rattle.nf_files.specs.Openings.{Creates}
use Rattle.nf_files.specs.Writes.{Writes, WritesFront}
use Rattle.stream_run.specs.Runs.{Run}
use Rattle.stream_run.specs.declared.fault.RunFault.{RunFault}
use Rattle.stream_run.specs.declared.fault.RunFault.TheVariants.{Memory}
use Rattle.stream_run.specs.Writing.{IsStopCause, StopsAt}
use Rattle.call_base.specs.declared.layout.FileOrder.TheVariants.{Created}
use Rattle.call_base.specs.declared.status.CallFault.{CallFault}
use Rattle.call_base.specs.Created.{Left, bytes_at}
use Rattle.call_base.specs.Far.{IsFar}
use Rattle.call_base.specs.Layout.{numbering}
use Rattle.call_base.specs.Names.{writing, name_at, created_by}
use Rattle.call_base.specs.Numbers.{StopsBy}
use Rattle.call_base.specs.Opened.{AreAllCreated, AsksNext}
use Rattle.call_base.specs.Outside.{Outside, HasOnlyAsked}
use Rattle.call_base.specs.Printed.{Printed}

-- ---- a text that is put under a name, and lines that are printed

-- a name was created, and no more
pub record IsBegun (name : List ℕ) (file : ℕ) (old mid : Outside) : Type 0 where
  pub created : Creates old.told mid.told name file
  pub asked_for : mid.counted ≡ asking (writing name ∷ []) old.counted

-- a name was created, and a text put there
pub record IsPut (name text : List ℕ) (old new : Outside) : Type 0 where
  pub mid : Outside
  pub file : ℕ
  pub begun : IsBegun name file old mid
  pub wrote : Writes mid.told new.told file text
  pub counted : new.counted ≡ mid.counted

-- it could not be created
pub record IsUncreated (name : List ℕ) (old new : Outside) (stop : RunFault) : Type 0 where
  pub same : Same old.told new.told
  pub asks : AsksNext {T = ℕ} (writing name) old.told.next old.counted new.counted (Err stop)

-- a front of the text was put there
pub record IsHalfPut (name text : List ℕ) (old new : Outside) (stop : RunFault) : Type 0 where
  pub mid : Outside
  pub file : ℕ
  pub begun : IsBegun name file old mid
  pub wrote : WritesFront mid.told new.told file text
  pub at : StopsAt {T = Unit {0}} file (Err stop)
  pub cause : IsStopCause {T = Unit {0}} mid.counted new.counted (Err stop)

-- memory ran out before
pub record IsNotBegun (old new : Outside) (stop : RunFault) : Type 0 where
  pub same : new ≡ old
  pub memory : stop ≡ Memory

-- what putting a text under a name comes to
abbrev pub PutsTo : {T : Type 0} → List ℕ → List ℕ → Outside → Outside → Result T RunFault → Type 0
PutsTo name text old new (Ok x) = IsPut name text old new
PutsTo name text old new (Err stop) = IsNotBegun old new stop ⊎ (IsUncreated name old new stop ⊎ IsHalfPut name text old new stop)

-- lines were printed
pub record IsOut (lines : List ℕ) (old new : Outside) : Type 0 where
  pub unnamed : old.told.name 0 ≡ None
  pub wrote : Writes old.told new.told 0 lines
  pub counted : new.counted ≡ old.counted

-- a front of them was
pub record IsHalfOut (lines : List ℕ) (old new : Outside) (stop : RunFault) : Type 0 where
  pub unnamed : old.told.name 0 ≡ None
  pub wrote : WritesFront old.told new.told 0 lines
  pub at : StopsAt {T = Unit {0}} 0 (Err stop)
  pub cause : IsStopCause {T = Unit {0}} old.counted new.counted (Err stop)

-- what printing them comes to
abbrev pub OutTo : {T : Type 0} → List ℕ → Outside → Outside → Result T RunFault → Type 0
OutTo lines old new (Ok x) = IsOut lines old new
OutTo lines old new (Err stop) = IsHalfOut lines old new stop

-- what putting a text under a name and then printing lines comes to
abbrev pub FinishesTo : {T : Type 0} → List ℕ → List ℕ → List ℕ → Outside → Outside → Result T RunFault → Type 0
FinishesTo name text lines old new (Ok x) = (mid : Outside) × IsPut name text old mid × IsOut lines mid new
FinishesTo {T = T} name text lines old new (Err stop) =
    PutsTo {T = T} name text old new (Err stop) ⊎ ((mid : Outside) × IsPut name text old mid × IsHalfOut lines mid new stop)

-- ---- the files of a run

-- Behind names that it asked for, of which so many are of captures, a run of so many ports creates its
-- files, outputs of this format among them, whose numbers begin at one.
pub record Leaves : Type 0 where
  pub inputs : List Asked
  pub captures : ℕ
  pub ports : ℕ
  pub format : CaptureFormat
  pub out : List ℕ
  pub base : ℕ

-- so it is with this run
pub record AreOf (l : Leaves) (before : Outside) (run : Run) : Type 0 where
  pub from_two : 2 ≤ before.told.next
  pub base_is : l.base ≡ before.told.next + 1 + l.captures
  pub few : l.ports ≤ 4
  pub ports : length run.function.handlers ≡ l.ports

-- The outputs and the journal were created, and nothing was given to them yet.
pub record HasCreated (l : Leaves) (before now : Outside) (targets : List ℕ) : Type 0 where
  pub old : Outside
  pub next : old.told.next ≡ l.base
  pub only : HasOnlyAsked l.inputs before old
  pub created : AreAllCreated old.told now.told (name_at l.format l.out l.ports) targets (l.ports + 1)
  pub asked_for : now.counted ≡ asking (created_by l.format l.out l.ports (l.ports + 1)) old.counted

-- So many files of a run were created, and so many of these are whole. Nothing was printed.
pub record HasMade (l : Leaves) (before now : Outside) (run : Run) (made full : ℕ) : Type 0 where
  pub files : Left before.told now.told l.base (name_at l.format l.out l.ports) (bytes_at l.format run) made full
  pub stdout : now.told.given 0 ≡ before.told.given 0
  pub stderr : now.told.given 1 ≡ before.told.given 1
  pub asked_for : now.counted ≡ asking (l.inputs ++ created_by l.format l.out l.ports made) before.counted

-- So many are whole, and lines were printed.
pub record HasPrinted (l : Leaves) (before now : Outside) (run : Run) (count : ℕ) (lines : List ℕ) : Type 0 where
  pub files : Left before.told now.told l.base (name_at l.format l.out l.ports) (bytes_at l.format run) count count
  pub stdout : Printed before.told now.told 0 lines
  pub stderr : now.told.given 1 ≡ before.told.given 1
  pub asked_for : now.counted ≡ asking (l.inputs ++ created_by l.format l.out l.ports count) before.counted

-- A run was stopped once it had begun to create files. The state is created behind whole others, by a run
-- that leaves one, and lines are printed once it has ended.
pub record IsBroken (l : Leaves) (ended : ℕ → ℕ → Type 0) (stated printed : Type 0) (before now : Outside) (run : Run) (stop : CallFault) : Type 0 where
  pub made : ℕ
  pub full : ℕ
  pub within : made ≤ l.ports + 2
  pub files : Left before.told now.told l.base (name_at l.format l.out l.ports) (bytes_at l.format run) made full
  pub far : IsFar (ended made full) stated l.ports stop made full
  pub last : l.ports + 1 < made → (l.ports + 1 ≤ full) × stated
  pub stdout : (now.told.given 0 ≡ before.told.given 0) ⊎ (ended made full × printed)
  pub stderr : now.told.given 1 ≡ before.told.given 1
  pub stops : StopsBy (numbering Created before.told.next l.captures l.ports) (l.inputs ++ created_by l.format l.out l.ports (l.ports + 2)) before.counted now.counted stop
