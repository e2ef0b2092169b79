-- Which file of a command a number is, and why a call could not go on.
use Rattle.std.specs.Prelude.{◌≡◌, ◌⊎◌, ℕ, List, ◌++◌}
use Rattle.nf_files.specs.Causes.{Counted, Faulted, Asked, asking, losing}
use Rattle.call_base.specs.declared.status.RunFile.{RunFile}
use Rattle.call_base.specs.declared.status.CallFault.{CallFault}
use Rattle.call_base.specs.declared.status.CallFault.TheVariants as stops

-- Which file of a call has which number.
pub record Numbering : Type 0 where
  pub file_of : ℕ → RunFile
  pub number_of : RunFile → ℕ

-- one more fault was counted, on the file of a number; the name of the call may be missing
abbrev pub Faults : Counted → Counted → ℕ → Type 0
Faults old new number = Faulted old new number ⊎ Faulted (losing old) new number

-- a file failed, or memory ran out: the count rose, at this file, or it is as before
pub record FailedBy (numbering : Numbering) (old new : Counted) (file : RunFile) : Type 0 where
  pub number : ℕ
  pub faulted : Faults old new number
  pub file_is : file ≡ numbering.file_of number
  pub number_is : number ≡ numbering.number_of file

abbrev pub IsCauseBy : Numbering → Counted → Counted → CallFault → Type 0
IsCauseBy numbering old new (stops.File file) = FailedBy numbering old new file
IsCauseBy numbering old new stops.Memory = new ≡ old

-- these are the first of a list
pub record IsFrontOf {A : Type 0} (all front : List A) : Type 0 where
  pub later : List A
  pub whole : front ++ later ≡ all

-- A call was stopped; the names that it had asked for then are the first of a list.
pub record StopsBy (numbering : Numbering) (names : List Asked) (old new : Counted) (stop : CallFault) : Type 0 where
  pub front : List Asked
  pub is_front : IsFrontOf names front
  pub cause : IsCauseBy numbering (asking front old) new stop
