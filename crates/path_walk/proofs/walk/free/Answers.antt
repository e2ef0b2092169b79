use Rattle.std.proofs.Common.{List}
use Rattle.std.proofs.lemmas.Result.{IfOk-weaker}
use Rattle.nf_base.specs.Paths.{Hits}
use Rattle.path_walk.specs.declared.line.Line.TheVariants as line
use Rattle.path_walk.specs.Tests.{TestText}
use Rattle.path_walk.specs.Walks.{Went, GoesOn}
use Rattle.path_walk.proofs.Walking.{goes_free}
use Rattle.path_walk.proofs.walk.free.Goals as goal

pub returns : goal.returns
returns c =
    let old = c.args.walk.now in
    let new = c.go.new.self in
    let olds = c.args.waiting.now.items in
    let news = c.wait.new.waiting.items in
    IfOk-weaker c.go.result (λ _. Went old new Hits c.args.hit) (λ _. (texts : List TestText) → GoesOn texts (line.Free c.args.hit c.args.miss) old olds new news)
    (λ _ h texts. goes_free texts old new olds news c.args.hit c.args.miss c.in_ok-wait.ensures h) c.go.ensures
