use Rattle.std.proofs.Common.{◌≡◌, ◌<◌, length, ap, length-drop, arith}
use Rattle.nf_files.specs.declared.fault.FilesFault.{FilesFault}
use Rattle.journal_read.specs.Journals.{Reading}
use Rattle.journal_read.proofs.Standing.{more_held, over_of}
use Rattle.journal_read.proofs.journal.Journal.is_over.Goals as goal

pub returns-then-self-len-clause-over : goal.returns-then-self-len-clause-over
returns-then-self-len-clause-over g c =
    let i = c.self.inside in
    let some : 0 < length c.args.self.now.held = grind (arith, ap (λ (r : Reading). length r.held) c.self.view_is, length-drop i.at i.bytes.items, c.if-self-len.true, c.len.ensures, i.bytes.ok.0) in
    λ start lines stands. more_held lines c.args.self.now.held start _ stands some

pub returns-clause-over : goal.returns-clause-over
returns-clause-over g c =
    let i = c.self.inside in
    let none : length c.args.self.now.held ≡ 0 = grind (arith, ap (λ (r : Reading). length r.held) c.self.view_is, length-drop i.at i.bytes.items, c.if-self-len.false, c.len.ensures, i.bytes.ok.0) in
    λ start lines stands. over_of FilesFault c.in_ok-more.more lines c.args.self.now.held _ start _ _ stands c.in_ok-more.ensures.fills none
