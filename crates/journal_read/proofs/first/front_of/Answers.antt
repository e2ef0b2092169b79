use Rattle.std.proofs.Common.{arith}
use Rattle.journal_read.proofs.Firsts.{long_no_line, other_no_line, once_some}
use Rattle.journal_read.proofs.first.front_of.Goals as goal

pub returns-else-bytes-lt-LONG : goal.returns-else-bytes-lt-LONG
returns-else-bytes-lt-LONG c = (long_no_line c.args.bytes.now c.in_default.ensures c.if-bytes-lt-LONG.false, omega (arith, c.if-bytes-lt-LONG.false))

pub returns-in-None : goal.returns-in-None
returns-in-None c =
    let bytes = c.args.bytes.now in
    let once = c.in-Some.ensures.1 in (other_no_line bytes c.in-Some.end once c.in-None.ensures, once_some bytes c.in-Some.end once)
