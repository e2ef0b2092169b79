-- When a call on captures may have no answer.
use Rattle.std.specs.Prelude.{◌≡◌, ℕ, List, slice_get, Option, Some, None, IsSome, Result, Ok, Err}
use Rattle.nf_files.specs.Causes.{Counted, Faulted}
use Rattle.pcap_file.specs.declared.fault.CapFault.{CapFault}
use Rattle.pcap_file.specs.declared.fault.CapFault.TheVariants as one
use Rattle.packet_feed.specs.declared.fault.FeedFault.{FeedFault}
use Rattle.packet_feed.specs.declared.fault.FeedFault.TheVariants.{NotCapture, File, Memory}

-- what a fault of the capture of a port is
abbrev pub fault_at : ℕ → CapFault → FeedFault
fault_at port one.NotCapture = NotCapture port
fault_at port one.File = File port
fault_at port one.Memory = Memory

-- one more fault was counted, on the file of a port
abbrev pub FaultedAt : Counted → Counted → Option ℕ → Type 0
FaultedAt old new None = ⊥
FaultedAt old new (Some file) = Faulted old new file

-- The count of a call on captures: it changes where the file of that port failed, and there alone.
abbrev pub IsCause : {T : Type 0} → Counted → Counted → List ℕ → Result T FeedFault → Type 0
IsCause old new files (Ok x) = new ≡ old
IsCause old new files (Err (NotCapture port)) = new ≡ old
IsCause old new files (Err Memory) = new ≡ old
IsCause old new files (Err (File port)) = FaultedAt old new (slice_get files port)

-- a fault that doesn't say that a file is no capture
abbrev pub IsReadFault : FeedFault → Type 0
IsReadFault (NotCapture port) = ⊥
IsReadFault (File port) = Unit {0}
IsReadFault Memory = Unit {0}

-- a fault of reading is of one of these files; whose header is wrong, is told where a feed starts
abbrev pub IsOneOf : List ℕ → FeedFault → Type 0
IsOneOf files (NotCapture port) = Unit {0}
IsOneOf files (File port) = IsSome (slice_get files port)
IsOneOf files Memory = Unit {0}

-- an answer that doesn't say that a file is no capture
abbrev pub IsNoHeaderFault : {T : Type 0} → Result T FeedFault → Type 0
IsNoHeaderFault (Ok x) = Unit {0}
IsNoHeaderFault (Err fault) = IsReadFault fault
