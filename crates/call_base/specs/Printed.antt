-- What was printed on a standard output.
use Rattle.std.specs.Prelude.{◌≡◌, ◌≢◌, ◌⊎◌, ◌<◌, ℕ, List, length, Result, Ok, Err}
use Rattle.nf_files.specs.Told.{Told}
use Rattle.nf_files.specs.Pieces.{Gains}
use Rattle.nf_files.specs.Writes.{Writes, WritesFront}
use Rattle.stream_run.specs.Texts.{IsFrontOf}
use Rattle.stream_run.specs.Writing.{IsStopCause, StopsAt}
use Rattle.stream_run.specs.declared.fault.RunFault.{RunFault}
use Rattle.stream_run.specs.declared.fault.RunFault.TheVariants as numbered
use Rattle.call_base.specs.declared.status.RunFile.TheVariants.{Stderr}
use Rattle.call_base.specs.declared.status.Status.{Status}
use Rattle.call_base.specs.declared.status.Status.TheVariants.{Done, Usage, Refused, FileFault, NotCapture, Torn, ShareFull, TooMany, NoKeys, Memory, Differs, ProofFails}
use Rattle.call_base.specs.Outside.{Outside}
use Rattle.call_base.specs.Texts.{error_line, said_of}

-- these bytes were put behind what a file was given
abbrev pub Printed : Told → Told → ℕ → List ℕ → Type 0
Printed before after file bytes = Gains bytes (before.given file) (after.given file)

-- a front of these bytes was put there, and not all
pub record PrintedFront (before after : Told) (file : ℕ) (bytes : List ℕ) : Type 0 where
  pub front : List ℕ
  pub is_front : IsFrontOf bytes front
  pub part : length front < length bytes
  pub printed : Printed before after file front

-- a piece was given whole, or a front of it where the call was stopped
abbrev pub Says : {T : Type 0} → Told → Told → ℕ → List ℕ → Result T RunFault → Type 0
Says old new file piece (Ok x) = Writes old new file piece
Says old new file piece (Err stop) = WritesFront old new file piece

-- the status of a call that standard error, or want of memory, stopped
abbrev pub stopped_at : RunFault → Status
stopped_at (numbered.File number) = FileFault Stderr
stopped_at numbered.Memory = Memory

-- a status after standard error could not be written: a fault that stands already is not hidden
abbrev pub after_stop : Status → RunFault → Status
after_stop (FileFault file) stop = FileFault file
after_stop Done stop = stopped_at stop
after_stop Usage stop = stopped_at stop
after_stop (Refused kind line column) stop = stopped_at stop
after_stop (NotCapture port) stop = stopped_at stop
after_stop (Torn port offset) stop = stopped_at stop
after_stop (ShareFull full) stop = stopped_at stop
after_stop (TooMany most) stop = stopped_at stop
after_stop (NoKeys why) stop = stopped_at stop
after_stop Memory stop = stopped_at stop
after_stop (Differs at) stop = stopped_at stop
after_stop (ProofFails line) stop = stopped_at stop

-- A call's end was told on standard error, and nothing else was done.
pub record IsSaid (ended after : Outside) (due status : Status) : Type 0 where
  pub status_is : status ≡ due
  pub wrote : Writes ended.told after.told 1 (said_of due)
  pub counted : after.counted ≡ ended.counted

-- Standard error failed, or memory ran out, and it holds a front of the line.
pub record IsHalfSaid (ended after : Outside) (due status : Status) : Type 0 where
  pub some : due ≢ Done
  pub stop : RunFault
  pub status_is : status ≡ after_stop due stop
  pub wrote : WritesFront ended.told after.told 1 (error_line due)
  pub at : StopsAt {T = Unit {0}} 1 (Err stop)
  pub cause : IsStopCause {T = Unit {0}} ended.counted after.counted (Err stop)

-- what telling an end on standard error comes to
abbrev pub Tells : Outside → Outside → Status → Status → Type 0
Tells ended after due status = IsSaid ended after due status ⊎ IsHalfSaid ended after due status
