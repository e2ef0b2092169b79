use Rattle.key_rows.proofs.Added.{row_added}
use Rattle.key_rows.proofs.equations.add_bit.Goals as goal

pub returns : goal.returns
returns c =
    row_added c.args.ports c.args.windows.now c.args.k c.args.u c.args.system.now c.add.new.self c.in_ok-row.row c.requires.over c.requires.first c.requires.second
    (c.is_within.ensures.yes c.if-not-is_within.false) c.in_ok-row.ensures c.in_ok-add.ensures.ok
