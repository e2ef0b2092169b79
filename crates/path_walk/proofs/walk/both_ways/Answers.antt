use Rattle.std.proofs.Common.{None, ap, ◌∙◌}
use Rattle.path_walk.specs.Known.{Marks, told_mark}
use Rattle.std.proofs.lemmas.Result.{IfOk-weaker}
use Rattle.nf_base.specs.Paths.{Hits}
use Rattle.path_walk.specs.Walks.{Went, TestGoesOn}
use Rattle.path_walk.proofs.Walking.{with_known, goes_both}
use Rattle.path_walk.proofs.walk.both_ways.Goals as goal

pub returns : goal.returns
returns c =
    let t = c.args.test in
    let old = c.args.walk.now in
    let new = c.go.new.self in
    let olds = c.args.waiting.now.items in
    let news = c.push.new.self.items in
    IfOk-weaker c.go.result (λ _. Went (with_known old c.tell-2.new.self) new Hits t.hit) (λ _. TestGoesOn None t old olds new news)
    (λ _ h. goes_both t old c.in_ok-other.other new c.tell-2.new.self c.tell.new.self olds news c.requires c.in_ok-other.ensures c.in_ok-push.ensures.items c.tell-2.ensures (c.tell.ensures ∙ ap (λ (m : Marks). told_mark m t.number t.equals t.exchanged) c.in_ok-other.ensures.same) h) c.go.ensures
