use Rattle.std.proofs.Common.{◌≡◌, ◌∙◌, ℕ, List, map}
use Rattle.std.proofs.lemmas.Result.{IfOk-weaker}
use Rattle.nf_base.specs.Paths.{Hits, Misses}
use Rattle.path_walk.specs.Tests.{TestText}
use Rattle.path_walk.specs.Trees.{Tree}
use Rattle.path_walk.specs.Lines.{child}
use Rattle.path_walk.specs.Known.{known_seen}
use Rattle.path_walk.specs.Branches.{branch_seen}
use Rattle.path_walk.specs.Walks.{ahead, behind, one_way, leaves, paths_of, Went}
use Rattle.path_walk.proofs.Walking.{goes_hit, goes_miss, differ_is}
use Rattle.path_walk.proofs.walk.Walk.go_one_way.Goals as goal

pub returns-then-exchanged-holds-clause-paths : goal.returns-then-exchanged-holds-clause-paths
returns-then-exchanged-holds-clause-paths c =
    let old = c.args.self.now in
    let new = c.go.new.self in
    IfOk-weaker c.go.result (λ _. Went old new Hits c.args.hit)
    (λ _. (texts : List TestText) (trees : List (Tree ℕ)) → paths_of texts trees new ≡ behind (map branch_seen old.branches.items) (one_way c.args.exchanged c.args.holds (ahead Hits (leaves texts (child trees c.args.hit) (known_seen old.known))) (ahead Misses (leaves texts (child trees c.args.miss) (known_seen old.known)))))
    (λ _ h texts trees. goes_hit texts trees old new c.args.hit (ahead Misses (leaves texts (child trees c.args.miss) (known_seen old.known))) c.args.exchanged c.args.holds (differ_is c.args.exchanged c.args.holds ∙ c.if-exchanged-holds.true) h) c.go.ensures

pub returns-else-exchanged-holds-clause-paths : goal.returns-else-exchanged-holds-clause-paths
returns-else-exchanged-holds-clause-paths c =
    let old = c.args.self.now in
    let new = c.go-else-exchanged-holds.new.self in
    IfOk-weaker c.go-else-exchanged-holds.result (λ _. Went old new Misses c.args.miss)
    (λ _. (texts : List TestText) (trees : List (Tree ℕ)) → paths_of texts trees new ≡ behind (map branch_seen old.branches.items) (one_way c.args.exchanged c.args.holds (ahead Hits (leaves texts (child trees c.args.hit) (known_seen old.known))) (ahead Misses (leaves texts (child trees c.args.miss) (known_seen old.known)))))
    (λ _ h texts trees. goes_miss texts trees old new c.args.miss (ahead Hits (leaves texts (child trees c.args.hit) (known_seen old.known))) c.args.exchanged c.args.holds (differ_is c.args.exchanged c.args.holds ∙ c.if-exchanged-holds.false) h) c.go-else-exchanged-holds.ensures
