-- A capture as it is written, in either format.
use Rattle.std.specs.Prelude.{ℕ, ◌+◌, List, ◌++◌}
use Rattle.pcap_file.specs.Record.{record_at}
use Rattle.pcap_file.specs.Spelled.{header_bytes, written_bytes}
use Rattle.pcapng_file.specs.Written.{ng_header_bytes, block_length, block_bytes}
use Rattle.capture_format.specs.declared.format.CaptureFormat.{CaptureFormat}
use Rattle.capture_format.specs.declared.format.CaptureFormat.TheVariants.{Pcap, Pcapng}

-- what a capture begins with
abbrev pub head_bytes : CaptureFormat → List ℕ
head_bytes Pcap = header_bytes
head_bytes Pcapng = ng_header_bytes

-- a packet in a capture: its time in nanoseconds, its length on the wire and its captured bytes
abbrev pub packet_bytes : CaptureFormat → ℕ → ℕ → List ℕ → List ℕ
packet_bytes Pcap time original frame = written_bytes (record_at time original frame)
packet_bytes Pcapng time original frame = block_bytes time original frame

-- how many bytes that are
abbrev pub head_length : CaptureFormat → ℕ
head_length Pcap = 24
head_length Pcapng = 60

-- how many bytes of a packet stand in front of its frame
abbrev pub lead_length : CaptureFormat → ℕ
lead_length Pcap = 16
lead_length Pcapng = 28

-- how many bytes a packet takes whose frame has so many
abbrev pub packet_length : CaptureFormat → ℕ → ℕ
packet_length Pcap captured = 16 + captured
packet_length Pcapng captured = block_length captured
