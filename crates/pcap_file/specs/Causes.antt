-- When a call on a capture's file may answer that the file failed.
use Rattle.std.specs.Prelude.{◌≡◌, ℕ, Result, Ok, Err}
use Rattle.nf_files.specs.Causes.{Counted, Faulted}
use Rattle.nf_files.specs.declared.fault.FilesFault.{FilesFault}
use Rattle.nf_files.specs.declared.fault.FilesFault.TheVariants as outside
use Rattle.pcap_file.specs.declared.fault.CapFault.{CapFault}
use Rattle.pcap_file.specs.declared.fault.CapFault.TheVariants.{NotCapture, File, Memory}

-- what a fault of the files is for a capture
abbrev pub cap_fault : FilesFault → CapFault
cap_fault outside.Failed = File
cap_fault (outside.Memory e) = Memory

-- the count of a call on a capture's file: it changes where the file failed, and there alone
abbrev pub IsCause : {T : Type 0} → Counted → Counted → ℕ → Result T CapFault → Type 0
IsCause old new file (Ok x) = new ≡ old
IsCause old new file (Err NotCapture) = new ≡ old
IsCause old new file (Err Memory) = new ≡ old
IsCause old new file (Err File) = Faulted old new file

-- an answer that doesn't say that the file is no capture
abbrev pub IsNoHeaderFault : {T : Type 0} → Result T CapFault → Type 0
IsNoHeaderFault (Ok x) = Unit {0}
IsNoHeaderFault (Err NotCapture) = ⊥
IsNoHeaderFault (Err File) = Unit {0}
IsNoHeaderFault (Err Memory) = Unit {0}
