use Rattle.std.proofs.Common.{List, []}
use Rattle.run_history.specs.declared.line.JournalLine.{JournalLine}
use Rattle.nf_files.specs.declared.fault.FilesFault.{FilesFault}
use Rattle.journal_read.proofs.Standing.{heads_of}
use Rattle.journal_read.proofs.journal.Journal.header.Goals as goal

pub returns-clause-heads : goal.returns-clause-heads
returns-clause-heads g c = λ start stands. heads_of FilesFault c.in_ok-next.next c.header_in.result start c.next.new.self _ c.header_in.ensures (let none : List JournalLine = [] in c.in_ok-next.ensures.gives start none stands)
