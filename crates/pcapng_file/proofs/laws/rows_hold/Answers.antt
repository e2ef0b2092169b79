use Rattle.pcapng_file.proofs.Rows.{written_rows, header_rows, section_rows, other_rows, time_rows}
use Rattle.pcapng_file.proofs.laws.rows_hold.Goals as goal

pub returns-clause-written : goal.returns-clause-written
returns-clause-written c = written_rows

pub returns-clause-headers : goal.returns-clause-headers
returns-clause-headers c = header_rows

pub returns-clause-sections : goal.returns-clause-sections
returns-clause-sections c = section_rows

pub returns-clause-others : goal.returns-clause-others
returns-clause-others c = other_rows

pub returns-clause-times : goal.returns-clause-times
returns-clause-times c = time_rows
