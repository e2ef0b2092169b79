-- The bytes of the files that a run leaves.
use Rattle.std.specs.Prelude.{◌≡◌, ℕ, Bool, false, not, ◌==◌, List, [], ◌++◌, length, map, filter, nat_lt, if◌then◌else◌}
use Rattle.std.specs.List.{flat_map}
use Rattle.nf_base.specs.declared.card.Card.{Card}
use Rattle.capture_format.specs.declared.format.CaptureFormat.{CaptureFormat}
use Rattle.nf_base.specs.declared.done.Action.{Action}
use Rattle.nf_base.specs.declared.done.Action.TheVariants.{Skip, Drop, To, Flood}
use Rattle.nf_base.specs.declared.done.Edits.{Edits}
use Rattle.frame_ip.specs.Frame.{is_handled}
use Rattle.frame_ip.specs.Edit.{edited}
use Rattle.capture_format.specs.Written.{head_bytes, packet_bytes}
use Rattle.pcap_file.specs.Record.{Record, record_at}
use Rattle.run_history.specs.Line.{header_line, packet_line}
use Rattle.run_history.specs.declared.line.Mode.{Mode}
use Rattle.stream_run.specs.Runs.{Run, Handled, handled_in}

-- An action sends a packet that came in at a port out at another: a flood goes to every port but that
-- one.
abbrev pub sends : Action → ℕ → ℕ → Bool
sends Skip from port = false
sends Drop from port = false
sends (To out) from port = out == port
sends Flood from port = not (from == port)

-- the packet is sent out at a port
abbrev pub is_sent : ℕ → Handled → Bool
is_sent port h = sends h.done.action h.arrival.packet.id.port port

-- a frame with the edits of its packet in it; one that isn't handled has none, and stays as it came
unfoldable pub with_edits : Edits → List ℕ → List ℕ
with_edits edits frame = if is_handled frame then edited edits frame else frame

-- the record of a packet that is sent: the packet's time, and its frame with its own edits
abbrev pub record_of : Handled → Record
record_of h = record_at h.arrival.packet.time h.arrival.original (with_edits h.done.edits h.arrival.frame)

-- a packet that is sent, in an output of this format
abbrev pub written_of : CaptureFormat → Handled → List ℕ
written_of format h = packet_bytes format h.arrival.packet.time h.arrival.original (with_edits h.done.edits h.arrival.frame)

-- what a packet leaves in the output of a port
abbrev pub sent_bytes : CaptureFormat → ℕ → Handled → List ℕ
sent_bytes format port h = if is_sent port h then written_of format h else []

-- a packet's line in the journal
abbrev pub line_of : Handled → List ℕ
line_of h = packet_line h.arrival.packet.id h.worker h.done.action h.done.picks

-- The files that are written as a run goes, by number: the outputs in the order of their ports, and
-- the journal behind them. What a packet leaves in a file:
abbrev pub piece : CaptureFormat → ℕ → ℕ → Handled → List ℕ
piece format ports file h = if nat_lt file ports then sent_bytes format file h else line_of h

-- what a packet leaves in an output, and in the journal, by the number of the file
abbrev pub sent_in : ℕ → Handled → ℕ → CaptureFormat → List ℕ
sent_in ports h file format = if nat_lt file ports then sent_bytes format file h else []

abbrev pub told_in : ℕ → Handled → ℕ → CaptureFormat → List ℕ
told_in ports h file format = if nat_lt file ports then [] else line_of h

-- what a file begins with
abbrev pub head : Mode → ℕ → Card → CaptureFormat → ℕ → ℕ → List ℕ
head mode workers card format ports file = if nat_lt file ports then head_bytes format else header_line mode workers card

-- what packets leave in a file
unfoldable pub bytes_of : Mode → ℕ → Card → CaptureFormat → ℕ → ℕ → List Handled → List ℕ
bytes_of mode workers card format ports file hs = head mode workers card format ports file ++ flat_map (piece format ports file) hs

-- what a run leaves in a file, where the outputs are of this format
abbrev pub file_bytes : CaptureFormat → Run → ℕ → List ℕ
file_bytes format r file = bytes_of r.mode r.workers r.card format (length r.function.handlers) file (handled_in r)

-- the packets that are sent out at a port, in the order in which they were handled
abbrev pub sent_packets : ℕ → List Handled → List Handled
sent_packets port hs = filter (is_sent port) hs

-- the records of these
abbrev pub sent_records : ℕ → List Handled → List Record
sent_records port hs = map record_of (filter (is_sent port) hs)

-- bytes of which these are the first
pub record IsFrontOf (bytes front : List ℕ) : Type 0 where
  pub later : List ℕ
  pub all : front ++ later ≡ bytes
