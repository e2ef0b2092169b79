-- Laws of runs and of the files that they leave.
use Rattle.std.specs.Prelude.{◌≡◌, ◌<◌, ℕ, List, length, map, ◌++◌}
use Rattle.std.specs.List.{All, flat_map}
use Rattle.nf_laws.specs.Steps.{HasHandler}
use Rattle.capture_format.specs.declared.format.CaptureFormat.{CaptureFormat}
use Rattle.capture_format.specs.declared.format.CaptureFormat.TheVariants.{Pcap}
use Rattle.capture_format.specs.Written.{head_bytes}
use Rattle.pcap_file.specs.Spelled.{capture_bytes}
use Rattle.run_history.specs.Line.{header_line}
use Rattle.packet_feed.specs.Arrivals.{Arrival}
use Rattle.stream_run.specs.Runs.{Turn, Run, IsLegal, longer, handled_in, arrival_in, turn_of}
use Rattle.stream_run.specs.Texts.{file_bytes, written_of, sent_packets, sent_records, line_of, IsFrontOf}

-- From any legal run some choices give further packets of the function's ports one that is legal,
-- whoever handles each.
abbrev pub LegalRunsGoOn : Type 0
LegalRunsGoOn = (r : Run) (more : List Arrival) (worker : Arrival → ℕ) → IsLegal r →
    All (λ (a : Arrival). HasHandler r.function a.packet) more →
    (later : List Turn) × ((map arrival_in later ≡ more) × (All (λ (t : Turn). t.worker ≡ worker t.arrival) later) × IsLegal (longer r later))

-- what a legal run leaves in a file is the front of what any longer one leaves there
abbrev pub FilesOnlyGrow : Type 0
FilesOnlyGrow = (format : CaptureFormat) (r : Run) (later : List Turn) (file : ℕ) → IsLegal r → IsLegal (longer r later) →
    IsFrontOf (file_bytes format (longer r later) file) (file_bytes format r file)

-- the output of a port is a header and the packets that are sent out there, in the format of the outputs
abbrev pub OutputsArePackets : Type 0
OutputsArePackets = (format : CaptureFormat) (r : Run) (port : ℕ) → port < length r.function.handlers →
    file_bytes format r port ≡ head_bytes format ++ flat_map (written_of format) (sent_packets port (handled_in r))

-- in pcap it is a capture of their records
abbrev pub OutputsAreCaptures : Type 0
OutputsAreCaptures = (r : Run) (port : ℕ) → port < length r.function.handlers →
    file_bytes Pcap r port ≡ capture_bytes (sent_records port (handled_in r))

-- the journal is a header with the mode, the number of workers and the card, and a line for each packet
abbrev pub JournalsAreLines : Type 0
JournalsAreLines = (format : CaptureFormat) (r : Run) →
    file_bytes format r (length r.function.handlers)
    ≡ header_line r.mode r.workers r.card ++ flat_map line_of (handled_in r)

-- the packets that a legal run handles are those of its turns, with their choices
abbrev pub HandledAreTurns : Type 0
HandledAreTurns = (r : Run) → IsLegal r → map turn_of (handled_in r) ≡ r.turns
