use Rattle.std.proofs.Common.{◌≡◌, ◌∙◌, map, ap, sym}
use Rattle.std.proofs.lemmas.Result.{IfOk-weaker}
use Rattle.nf_base.specs.View.{block_of}
use Rattle.nf_base.specs.Functions.{function_of}
use Rattle.path_walk.specs.Feasible.{handler_paths, feasible_paths, branches_along}
use Rattle.path_walk.specs.Listed.{HasEachTaken}
use Rattle.path_walk.specs.Once.{EachOnce}
use Rattle.path_walk.proofs.Handled.{all_taken, all_once}
use Rattle.path_walk.proofs.ports.paths.Goals as goal

pub returns-in-Some-clause-once : goal.returns-in-Some-clause-once
returns-in-Some-clause-once c =
    let f = function_of c.args.func.now in
    let h = c.in-Some.handler.now in
    let at = ap handler_paths c.in-Some.ensures.some in
    IfOk-weaker c.block_paths.result (λ all. all.items ≡ map branches_along (feasible_paths (block_of h.block))) (λ all. EachOnce all.items)
    (λ all e. all_once f c.args.door all.items (e ∙ ap (map branches_along) (sym at))) c.block_paths.ensures.all

pub returns-in-Some-clause-taken : goal.returns-in-Some-clause-taken
returns-in-Some-clause-taken c =
    let f = function_of c.args.func.now in
    let h = c.in-Some.handler.now in
    let at = ap handler_paths c.in-Some.ensures.some in
    IfOk-weaker c.block_paths.result (λ all. all.items ≡ map branches_along (feasible_paths (block_of h.block))) (λ all. HasEachTaken f c.args.door all.items)
    (λ all e. all_taken f c.args.door all.items (e ∙ ap (map branches_along) (sym at))) c.block_paths.ensures.all
