use Rattle.std.proofs.Common.{[], map, arith}
use Rattle.std.proofs.lemmas.Result.{IfOk-weaker}
use Rattle.path_walk.specs.Seen.{text_seen}
use Rattle.path_walk.specs.Lines.{trees}
use Rattle.path_walk.specs.Walks.{Steps, Advances}
use Rattle.path_walk.proofs.Walking.{ends_past, at_line, got}
use Rattle.path_walk.proofs.walk.advance.Goals as goal

pub returns-then-walk-len : goal.returns-then-walk-len
returns-then-walk-len c =
    let texts = map text_seen c.args.numbered.now.texts.items in
    let ls = c.args.numbered.now.lines.items in
    let l = c.index.result.now in
    let old = c.args.walk.now in
    let olds = c.args.waiting.now.items in
    let new = c.step.new.walk in
    let news = c.step.new.waiting.items in
    IfOk-weaker c.step.result (λ goes. Steps goes (map text_seen c.args.numbered.now.texts.items) l old olds new news) (λ goes. Advances goes texts (trees [] ls) old olds new news)
    (λ goes h. at_line texts ls l goes old olds new news c.requires.laid (got ls old.at l (omega arith) c.index.ensures) h) c.step.ensures

pub returns-else-walk-len : goal.returns-else-walk-len
returns-else-walk-len c =
    ends_past (map text_seen c.args.numbered.now.texts.items) c.args.numbered.now.lines.items c.args.walk.now c.args.waiting.now.items (omega arith)
