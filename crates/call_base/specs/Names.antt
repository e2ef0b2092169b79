-- The names that a command asks for, in their order: the function's text, the captures in the order of
-- their ports, then the outputs in the order of their ports, the journal, and the state last.
use Rattle.std.specs.Prelude.{ℕ, ◌+◌, List, [], ◌∷◌, ◌++◌, length, map, codes, decimal, nat_lt, nat_eq, if◌then◌else◌}
use Rattle.std.specs.List.{range_with_len}
use Rattle.capture_format.specs.declared.format.CaptureFormat.{CaptureFormat}
use Rattle.capture_format.specs.declared.format.CaptureFormat.TheVariants.{Pcap, Pcapng}
use Rattle.nf_files.specs.declared.kind.Kind.TheVariants.{Input, Output}
use Rattle.nf_files.specs.Causes.{Asked}
use Rattle.command_words.specs.Commands.{Run as RunAsked}

-- how the names of output captures end
abbrev pub output_end : CaptureFormat → List ℕ
output_end Pcap = codes ".pcap"
output_end Pcapng = codes ".pcapng"

-- the name of the output capture of a port, behind the front that the command gives: `.0.pcap` and so on, or
-- `.0.pcapng`
abbrev pub output_name : CaptureFormat → List ℕ → ℕ → List ℕ
output_name format out port = out ++ codes "." ++ decimal port ++ output_end format

-- the name of the journal
abbrev pub journal_name : List ℕ → List ℕ
journal_name out = out ++ codes ".journal"

-- the name of the last state's text
abbrev pub state_name : List ℕ → List ℕ
state_name out = out ++ codes ".state"

-- the name of the file that a run of so many ports creates behind so many others
unfoldable pub name_at : CaptureFormat → List ℕ → ℕ → ℕ → List ℕ
name_at format out ports k =
    if nat_lt k ports then output_name format out k
    else if nat_eq k ports then journal_name out
    else state_name out

-- a name that is asked for to be read, and one to be written
abbrev pub reading : List ℕ → Asked
reading n = record { name = n; kind = Input }

abbrev pub writing : List ℕ → Asked
writing n = record { name = n; kind = Output }

-- the names that a run reads
abbrev pub inputs_of : RunAsked → List Asked
inputs_of c = reading c.function ∷ map reading c.captures

-- the first so many names that a run of so many ports creates
abbrev pub created_by : CaptureFormat → List ℕ → ℕ → ℕ → List Asked
created_by format out ports count = map (λ k. writing (name_at format out ports k)) (range_with_len 0 count)

-- the names that a run asks for which creates so many files
abbrev pub asked_until : RunAsked → ℕ → List Asked
asked_until c count = inputs_of c ++ created_by c.format c.out (length c.captures) count

-- all names that a run asks for
abbrev pub asked_by : RunAsked → List Asked
asked_by c = asked_until c (length c.captures + 2)
