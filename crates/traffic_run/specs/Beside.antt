-- What is known of a run whose captures are made, behind it.
use Rattle.std.specs.Prelude.{◌≡◌, ℕ, ◌+◌, ◌≤◌, true, List, Some, slice_get, nat_le, if◌then◌else◌, Result, Ok, Err}
use Rattle.capture_format.specs.declared.format.CaptureFormat.{CaptureFormat}
use Rattle.nf_files.specs.Told.{Told}
use Rattle.nf_files.specs.Causes.{Counted}
use Rattle.stream_run.specs.declared.fault.RunFault.{RunFault}
use Rattle.stream_run.specs.declared.fault.RunFault.TheVariants.{File, Memory}
use Rattle.made_captures.specs.Outputs.{Counting, journal_of, bytes_from, is_right, is_known}
use Rattle.traffic_run.specs.declared.result.UncountedResult.{UncountedResult}
use Rattle.traffic_run.specs.declared.result.UncountedResult.TheVariants as left
use Rattle.traffic_run.specs.declared.result.TrafficResult.{TrafficResult}
use Rattle.traffic_run.specs.declared.result.TrafficResult.TheVariants as came
use Rattle.traffic_run.specs.Sent.{records_in}

-- none of the files stands behind the journal
abbrev pub AreBefore : Counting → List ℕ → Type 0
AreBefore c files = (k file : ℕ) → slice_get files k ≡ Some file → file ≤ journal_of c

-- the outputs were given so many bytes, modulo 2^64, where that is told
abbrev pub CountsTo : ℕ → ℕ → Told → ℕ → Type 0
CountsTo first count now bytes = is_right (bytes_from now.given first count) bytes ≡ true

-- a file past a number is the first to fail only where it was before
abbrev pub StaysKnown : ℕ → Counted → Counted → Type 0
StaysKnown last old new = is_known last new.first ≡ is_known last old.first

-- The file that is told to have failed: one of so many ports' outputs or the journal, from a number on.
-- Made captures never fail.
abbrev pub told_file : ℕ → ℕ → ℕ → ℕ
told_file first ports file = if nat_le first file then (if nat_le file (first + ports) then file else first) else first

abbrev pub told_stop : ℕ → ℕ → RunFault → RunFault
told_stop first ports (File file) = File (told_file first ports file)
told_stop first ports Memory = Memory

-- what a run came to, whose outputs were given so many bytes
abbrev pub came_of : CaptureFormat → ℕ → ℕ → ℕ → Result UncountedResult RunFault →
    Result TrafficResult RunFault
came_of format first ports bytes (Ok (left.Whole m state)) = Ok (came.Whole m state (records_in format bytes ports))
came_of format first ports bytes (Ok (left.Full full)) = Ok (came.Full full)
came_of format first ports bytes (Err stop) = Err (told_stop first ports stop)
