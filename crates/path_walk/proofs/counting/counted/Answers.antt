use Rattle.std.proofs.Common.{◌≡◌, ◌∙◌, ◌<◌, [], map, length, arith, ap}
use Rattle.path_walk.specs.Seen.{text_seen}
use Rattle.path_walk.specs.Lines.{trees}
use Rattle.path_walk.specs.Walks.{paths_from}
use Rattle.path_walk.specs.Counts.{count_waiting, count_left_along, count_waiting_along}
use Rattle.path_walk.proofs.Walking.{err_many}
use Rattle.path_walk.proofs.Points.{waiting_behind}
use Rattle.path_walk.proofs.counting.counted.Goals as goal

pub returns-in_err-follow-clause-many : goal.returns-in_err-follow-clause-many
returns-in_err-follow-clause-many c =
    let n = c.args.numbered.now in
    let texts = map text_seen n.texts.items in
    let ts = trees [] n.lines.items in
    let left : count_waiting_along n c.loop-point.waiting.items ≡ count_left_along n c.in-Some.point c.pop.new.self.items =
    ap (count_waiting texts ts) c.in-Some.ensures.items ∙ waiting_behind texts ts c.pop.new.self.items c.in-Some.point in
    err_many c.from_residual-in_err-follow.result c.in_err-follow.field-0.0 (4096 < length (paths_from n c.args.at)) c.from_residual-in_err-follow.ensures.1
    (λ e. let many = c.in_err-follow.ensures.many e in omega (arith, left, many, c.loop-point.invariant.whole, c.loop-point.invariant.room))

pub loop-point-preserved : goal.loop-point-preserved
loop-point-preserved c =
    let n = c.args.numbered.now in
    let texts = map text_seen n.texts.items in
    let ts = trees [] n.lines.items in
    let left : count_waiting_along n c.loop-point.waiting.items ≡ count_left_along n c.in-Some.point c.pop.new.self.items =
    ap (count_waiting texts ts) c.in-Some.ensures.items ∙ waiting_behind texts ts c.pop.new.self.items c.in-Some.point in
    record {
      whole = omega (arith, left, c.in_ok-follow.ensures.left, c.loop-point.invariant.whole);
      room = omega (arith, c.in_ok-follow.ensures.within, c.in-Some.ensures.len, c.loop-point.invariant.room);
    }
