use Rattle.stream_run.proofs.Bytes.{are_packets, are_captures, are_lines}
use Rattle.stream_run.proofs.laws.files_are_of_packets.Goals as goal

pub returns-clause-packets : goal.returns-clause-packets
returns-clause-packets c = are_packets

pub returns-clause-outputs : goal.returns-clause-outputs
returns-clause-outputs c = are_captures

pub returns-clause-journal : goal.returns-clause-journal
returns-clause-journal c = are_lines
