-- Which file of a call has which number.
use Rattle.std.specs.Prelude.{ℕ, ◌+◌, ◌-◌, List, nat_lt, nat_le, nat_eq, if◌then◌else◌}
use Rattle.nf_files.specs.Causes.{Counted, Asked}
use Rattle.stream_run.specs.declared.fault.RunFault.{RunFault}
use Rattle.stream_run.specs.declared.fault.RunFault.TheVariants as numbered
use Rattle.call_base.specs.declared.layout.FileOrder.{FileOrder}
use Rattle.call_base.specs.declared.layout.FileOrder.TheVariants.{Created, Read}
use Rattle.call_base.specs.declared.layout.Layout.{Layout}
use Rattle.call_base.specs.declared.status.RunFile.{RunFile}
use Rattle.call_base.specs.declared.status.RunFile.TheVariants.{Nf, Capture, Journal, Output, OutJournal, State, Proof, Stdout, Stderr}
use Rattle.call_base.specs.declared.status.CallFault.{CallFault}
use Rattle.call_base.specs.declared.status.CallFault.TheVariants as stops
use Rattle.call_base.specs.Numbers.{Numbering, StopsBy}

-- What stands at a place behind the captures: of so many ports the outputs are created in port order,
-- then the journal, and the state last; or the journal is read, and then the outputs in port order.
abbrev pub file_behind : FileOrder → ℕ → ℕ → RunFile
file_behind Created ports place =
    if nat_lt place ports then Output place
    else if nat_eq place ports then OutJournal
    else State
file_behind Read ports place = if nat_eq place 0 then Journal else Output (place - 1)

-- Openings are numbered from a first one on: the text is opened first, then so many captures in port
-- order, then what stands behind them.
abbrev pub opened_file : FileOrder → (captures ports place : ℕ) → RunFile
opened_file behind captures ports place =
    if nat_le place captures then Capture (place - 1)
    else file_behind behind ports (place - captures - 1)

-- the file of a number, where this one was the first to be opened; 0 is standard output, and 1
-- standard error
abbrev pub file_of : FileOrder → (first captures ports number : ℕ) → RunFile
file_of behind first captures ports number =
    if nat_eq number first then Nf
    else if nat_eq number 0 then Stdout
    else if nat_eq number 1 then Stderr
    else opened_file behind captures ports (number - first)

-- the place of an output behind the captures
abbrev pub output_place : FileOrder → ℕ → ℕ
output_place Created port = port
output_place Read port = 1 + port

-- the number of a file
abbrev pub number_of : FileOrder → (first captures ports : ℕ) → RunFile → ℕ
number_of behind first captures ports Nf = first
number_of behind first captures ports (Capture port) = first + 1 + port
number_of behind first captures ports Journal = first + 1 + captures
number_of behind first captures ports (Output port) = first + 1 + captures + output_place behind port
number_of behind first captures ports OutJournal = first + 1 + captures + ports
number_of behind first captures ports State = first + 1 + captures + (ports + 1)
number_of behind first captures ports Proof = first + 1 + captures
number_of behind first captures ports Stdout = 0
number_of behind first captures ports Stderr = 1

abbrev pub numbering : FileOrder → (first captures ports : ℕ) → Numbering
numbering behind first captures ports = record {
  file_of = file_of behind first captures ports;
  number_of = number_of behind first captures ports;
}

-- that of a call's own files
abbrev pub numbering_of : Layout → Numbering
numbering_of layout = numbering layout.behind layout.first layout.captures layout.ports

-- what a stop by the file of a number is
abbrev pub stop_named : Numbering → RunFault → CallFault
stop_named n (numbered.File number) = stops.File (n.file_of number)
stop_named n numbered.Memory = stops.Memory

-- a run reads a capture of each of its ports, and creates files behind them
abbrev pub run_numbering : ℕ → ℕ → Numbering
run_numbering first ports = numbering Created first ports ports

-- A run was stopped; the names that it had asked for then are the first of a list.
abbrev pub Stops : ℕ → ℕ → List Asked → Counted → Counted → CallFault → Type 0
Stops first ports = StopsBy (run_numbering first ports)
