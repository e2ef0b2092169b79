use Rattle.pcapng_file.proofs.Again.{written_blocks_are_read}
use Rattle.pcapng_file.proofs.Captures.{written_captures_are_read}
use Rattle.pcapng_file.proofs.laws.what_is_written_is_read.Goals as goal

pub returns-clause-block : goal.returns-clause-block
returns-clause-block c = written_blocks_are_read

pub returns-clause-capture : goal.returns-clause-capture
returns-clause-capture c = written_captures_are_read
