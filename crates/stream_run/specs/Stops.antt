-- Why a run can't go on.
use Rattle.std.specs.Prelude.{ℕ}
use Rattle.nf_files.specs.declared.fault.FilesFault.{FilesFault}
use Rattle.nf_files.specs.declared.fault.FilesFault.TheVariants as outside
use Rattle.stream_run.specs.declared.fault.RunFault.{RunFault}
use Rattle.stream_run.specs.declared.fault.RunFault.TheVariants.{File, Memory}

-- what a fault of a call on a file is for a run
abbrev pub stop_of : ℕ → FilesFault → RunFault
stop_of file outside.Failed = File file
stop_of file (outside.Memory e) = Memory
