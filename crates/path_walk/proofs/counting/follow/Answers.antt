use Rattle.std.proofs.Common.{[], map, arith, ◌∙◌}
use Rattle.path_walk.specs.Seen.{text_seen}
use Rattle.path_walk.specs.Lines.{trees}
use Rattle.path_walk.proofs.Points.{counts_on, more_counted}
use Rattle.path_walk.proofs.counting.follow.Goals as goal

pub returns-then-len-room-clause-many : goal.returns-then-len-room-clause-many
returns-then-len-room-clause-many c = λ e.
    let texts = map text_seen c.args.numbered.now.texts.items in
    let ts = trees [] c.args.numbered.now.lines.items in
    let new = c.advance.new.point in
    let news = c.advance.new.waiting.items in
    let on = counts_on c.in_ok-goes.goes texts ts c.steps.point c.steps.waiting.items new news c.if-not-goes.false c.in_ok-goes.ensures in
    let same = on.left ∙ c.steps.invariant.left in
    let more = more_counted texts ts new news in
    omega (arith, same, more, c.if-len-room.true, c.len.ensures)
