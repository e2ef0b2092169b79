use Rattle.std.proofs.Common.{rules, ◌≡◌, List, length, slice_index_or, ap, sym, ◌∙◌, subst, arith}
use Rattle.nf_base.specs.Functions.{function_of}
use Rattle.shard_core.specs.Held.{Held}
use Rattle.shard_rounds.specs.Workings.{WorkedThrough, AllWorkedThrough}
use denote.Param.Send.{param_sync}
use Rattle.shard_rounds.proofs.working.work_each.Lts.{arg-1-2}
use Rattle.nf_base.proofs.Shared.{func_sync}
use Rattle.shard_rounds.proofs.Called.{can_each, all_through, all_of}
use Rattle.shard_rounds.proofs.working.work_each.Goals as goal

pub for_each_mut-requires-sync-F : goal.for_each_mut-requires-sync-F
for_each_mut-requires-sync-F g c κs within =
    param_sync 2 (arg-1-2 g.row.R g.row.G g.R.laws g.G.laws g.R.Threads-dict g.G.Turns-dict κs)
    (record {
      shared = λ x b o κ. (
        (
          ((λ q. tt), func_sync.shared x.0.now x.0.ref_ptr.0 x.0.ref_ptr.1 κs.1.1.1.1.1.1.0),
          (((λ q. tt), c.type_bounds.sync-G.shared x.1.now x.1.ref_ptr.0 x.1.ref_ptr.1 κs.1.1.1.1.1.1.1.0), tt),
        ),
        λ q. tt,
      );
    })

pub for_each_mut-requires-clause-accepts : goal.for_each_mut-requires-clause-accepts
for_each_mut-requires-clause-accepts g c κs within = λ i p lt at.
    can_each c.args.func.now c.args.workers.now.items i p.now c.requires (let e = ap length c.as_mut_slice.ensures.value in omega (arith, lt, e)) (at ∙ ap (λ (hs : List Held). slice_index_or hs i p.now) c.as_mut_slice.ensures.value)

pub returns : goal.returns
returns g c =
    let same : length c.for_each_mut.new.s ≡ length c.args.workers.now.items = c.for_each_mut.auto.s ∙ ap length c.as_mut_slice.ensures.value in
    subst (λ (hs : List Held). AllWorkedThrough (function_of c.args.func.now) c.args.workers.now.items hs) (sym (all_of c.args.workers.now.len c.for_each_mut.new.s _ (sym c.as_mut_slice.ensures.len ∙ sym c.for_each_mut.auto.s)))
    (all_through (function_of c.args.func.now) c.args.workers.now.items c.for_each_mut.new.s same (λ i d lt.
    let r = (c.for_each_mut.ensures i d (let e = ap length c.as_mut_slice.ensures.value in omega (arith, lt, e))).1 in
    let called = r.call in
    subst (λ (z : Held). WorkedThrough (function_of c.args.func.now) z (slice_index_or c.for_each_mut.new.s i d)) (r.argument_is ∙ ap (λ (hs : List Held). slice_index_or hs i d) c.as_mut_slice.ensures.value)
    (subst (λ (z : Held). WorkedThrough (function_of c.args.func.now) r.argument.now z) r.left (search (rules, called)))))
