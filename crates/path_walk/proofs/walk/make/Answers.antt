use Rattle.std.proofs.Common.{List}
use Rattle.std.proofs.lemmas.Result.{IfOk-weaker}
use Rattle.nf_base.specs.Paths.{Makes}
use Rattle.path_walk.specs.declared.line.Line.TheVariants as line
use Rattle.path_walk.specs.Tests.{TestText}
use Rattle.path_walk.specs.Walks.{Went, GoesOn}
use Rattle.path_walk.proofs.Walking.{goes_make}
use Rattle.path_walk.proofs.walk.make.Goals as goal

pub returns : goal.returns
returns c =
    let old = c.args.walk.now in
    let new = c.go.new.self in
    let olds = c.args.waiting.now.items in
    let mids = c.wait.new.waiting.items in
    let news = c.wait-2.new.waiting.items in
    IfOk-weaker c.go.result (λ _. Went old new Makes c.args.made) (λ _. (texts : List TestText) → GoesOn texts (line.Make c.args.made c.args.taken c.args.full) old olds new news)
    (λ _ h texts. goes_make texts old new olds mids news c.args.made c.args.taken c.args.full c.in_ok-wait.ensures c.in_ok-wait-2.ensures h) c.go.ensures
