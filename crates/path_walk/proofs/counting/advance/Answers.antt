use Rattle.std.proofs.Common.{[], map, arith}
use Rattle.std.proofs.lemmas.Result.{IfOk-weaker}
use Rattle.path_walk.specs.Seen.{text_seen}
use Rattle.path_walk.specs.Lines.{trees}
use Rattle.path_walk.specs.Counts.{CountSteps, CountAdvances}
use Rattle.path_walk.proofs.Walking.{got}
use Rattle.path_walk.proofs.Points.{count_line, count_past}
use Rattle.path_walk.proofs.counting.advance.Goals as goal

pub returns-then-point-len : goal.returns-then-point-len
returns-then-point-len c =
    let texts = map text_seen c.args.numbered.now.texts.items in
    let ls = c.args.numbered.now.lines.items in
    let l = c.index.result.now in
    let old = c.args.point.now in
    let olds = c.args.waiting.now.items in
    let new = c.step.new.point in
    let news = c.step.new.waiting.items in
    IfOk-weaker c.step.result (λ goes. CountSteps goes (map text_seen c.args.numbered.now.texts.items) l old olds new news) (λ goes. CountAdvances goes texts (trees [] ls) old olds new news)
    (λ goes h. count_line texts ls l goes old olds new news c.requires.laid (got ls old.at l (omega arith) c.index.ensures) h) c.step.ensures

pub returns-else-point-len : goal.returns-else-point-len
returns-else-point-len c =
    count_past (map text_seen c.args.numbered.now.texts.items) c.args.numbered.now.lines.items c.args.point.now c.args.waiting.now.items (omega arith)
