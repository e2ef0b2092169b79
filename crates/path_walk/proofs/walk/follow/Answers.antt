use Rattle.std.proofs.Common.{◌∙◌, [], map, arith}
use Rattle.path_walk.specs.Seen.{text_seen}
use Rattle.path_walk.specs.Lines.{trees}
use Rattle.path_walk.specs.Walks.{paths_left}
use Rattle.path_walk.proofs.Walking.{walks_on, too_many}
use Rattle.path_walk.proofs.walk.follow.Goals as goal

pub returns-then-len-room-clause-many : goal.returns-then-len-room-clause-many
returns-then-len-room-clause-many c = λ e.
    let texts = map text_seen c.args.numbered.now.texts.items in
    let ts = trees [] c.args.numbered.now.lines.items in
    let new = c.advance.new.walk in
    let news = c.advance.new.waiting.items in
    let on = walks_on c.in_ok-goes.goes texts ts c.steps.walk c.steps.waiting.items new news c.if-not-goes.false c.in_ok-goes.ensures in
    too_many texts ts new news (paths_left texts ts c.args.first c.args.waiting.now.items) c.args.room (omega arith) (on.left ∙ c.steps.invariant.left)
