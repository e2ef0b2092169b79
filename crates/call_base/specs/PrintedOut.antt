-- What printing a text on standard output comes to.
use Rattle.std.specs.Prelude.{◌≡◌, ℕ, List, Result, Ok, Err}
use Rattle.nf_files.specs.Causes.{Counted, Faulted}
use Rattle.stream_run.specs.declared.fault.RunFault.{RunFault}
use Rattle.stream_run.specs.declared.fault.RunFault.TheVariants as numbered
use Rattle.call_base.specs.declared.status.RunFile.TheVariants.{Stdout}
use Rattle.call_base.specs.declared.status.CallFault.{CallFault}
use Rattle.call_base.specs.declared.status.CallFault.TheVariants.{File, Memory}
use Rattle.call_base.specs.Outside.{Outside}
use Rattle.call_base.specs.Printed.{Printed, PrintedFront}

-- what a stop of printing is
abbrev pub stop_at_stdout : RunFault → CallFault
stop_at_stdout (numbered.File number) = File Stdout
stop_at_stdout numbered.Memory = Memory

-- standard output failed, or memory ran out
abbrev pub IsPrintCause : Counted → Counted → CallFault → Type 0
IsPrintCause old new (File file) = (file ≡ Stdout) × Faulted old new 0
IsPrintCause old new Memory = new ≡ old

-- a text was printed, or a front of it
pub record IsPrinted (before now : Outside) (text : List ℕ) : Type 0 where
  pub contents : (n : List ℕ) → now.told.content n ≡ before.told.content n
  pub stdout : Printed before.told now.told 0 text
  pub stderr : now.told.given 1 ≡ before.told.given 1
  pub counted : now.counted ≡ before.counted

pub record IsHalfPrinted (before now : Outside) (text : List ℕ) (stop : CallFault) : Type 0 where
  pub contents : (n : List ℕ) → now.told.content n ≡ before.told.content n
  pub stdout : PrintedFront before.told now.told 0 text
  pub stderr : now.told.given 1 ≡ before.told.given 1
  pub cause : IsPrintCause before.counted now.counted stop

-- what printing comes to
abbrev pub PrintsTo : {T : Type 0} → Outside → Outside → List ℕ → Result T CallFault → Type 0
PrintsTo before now text (Ok x) = IsPrinted before now text
PrintsTo before now text (Err stop) = IsHalfPrinted before now text stop
