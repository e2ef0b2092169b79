use Rattle.std.proofs.Common.{◌≡◌, List, ap, sym, ◌∙◌, subst}
use Rattle.nf_base.specs.declared.func.Func.{Func}
use Rattle.nf_base.specs.Functions.{function_of}
use Rattle.shard_core.specs.Held.{Held}
use Rattle.shard_core.specs.Sharded.{Sharded, StandsFor, with_workers}
use Rattle.shard_core.specs.Apart.{AreWorked}
use Rattle.shard_rounds.specs.Workings.{AllWorkedThrough}
use Rattle.shard_core.proofs.Apart.{back_by_works}
use Rattle.shard_rounds.proofs.Called.{calls, are_worked, worked_all}
use Rattle.shard_rounds.proofs.working.work_apart.Goals as goal

pub together-requires : goal.together-requires
together-requires g c =
    back_by_works c.apart-workers.new.self (function_of c.func.result.now) (calls c.apart-workers.result.items) c.apart-workers.result.items c.work_each.new.workers.items c.apart-workers.ensures.each
    (are_worked (function_of c.func.result.now) c.apart-workers.result.items c.work_each.new.workers.items c.work_each.ensures)

pub returns-clause-worked : goal.returns-clause-worked
returns-clause-worked g c = λ x m h.
    let v = c.args.shards.now in
    let before = c.apart-workers.result.items in
    let after = c.work_each.new.workers.items in
    let rest = c.apart-workers.ensures.rest in
    let func : c.func.result.now ≡ v.func = c.func.ensures ∙ ap (λ (z : Sharded). z.func) rest in
    let all : AllWorkedThrough (function_of v.func) before after = subst (λ (f : Func). AllWorkedThrough (function_of f) before after) func c.work_each.ensures in
    let was : with_workers before c.apart-workers.new.self ≡ v = ap (with_workers before) rest ∙ ap (λ (hs : List Held). with_workers hs v) c.apart-workers.ensures.workers in
    let are : AreWorked (function_of c.apart-workers.new.self.func) (calls before) before after = subst (λ (z : Sharded). AreWorked (function_of z.func) (calls before) before after) (sym rest) (are_worked (function_of v.func) before after all) in
    worked_all x m v c.together.new.self before after (sym c.apart-workers.ensures.workers) (ap (λ (z : Sharded). z.workers) c.together.ensures.workers) h all
    (c.together.ensures.stands x m before (calls before) (subst (λ (z : Sharded). StandsFor x m z) (sym was) h) are)
