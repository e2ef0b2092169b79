use Rattle.std.proofs.Common.{◌≡◌, List, length, sym, ◌∙◌, subst}
use Rattle.nf_base.specs.Functions.{function_of}
use Rattle.vig_tables.specs.TablesState.{TablesState}
use Rattle.vig_tables.specs.Union.{owner_among, state_in, AreOf, HasNamesApart, IsUnion}
use Rattle.shard_core.specs.Sharded.{Sharded, sharded_of}
use Rattle.shard_core.specs.Finished.{tables_in, IsMergeOf}
use Rattle.shard_core.proofs.Finishing.{of_one, if_all_ok}
use Rattle.shard_core.proofs.shards.Shards.merged.Goals as goal

pub merge-requires-clause-of_one : goal.merge-requires-clause-of_one
merge-requires-clause-of_one c =
    let i = c.self.inside in
    let is : c.as_slice.result.now ≡ tables_in i.workers = c.as_slice.ensures.value ∙ c.in-Ok.ensures in
    subst (AreOf i.func.chains) (sym is) (of_one i.func i.keys i.count i.workers i.queues.items i.table c.self.invariant)

pub returns-in-Ok : goal.returns-in-Ok
returns-in-Ok c =
    let i = c.self.inside in
    let f = function_of i.func in
    let is : c.as_slice.result.now ≡ tables_in i.workers = c.as_slice.ensures.value ∙ c.in-Ok.ensures in
    let v = sharded_of i.func i.keys i.count i.workers i.queues i.time in
    if_all_ok c.merge.result _ _ _ (IsMergeOf c.args.self) c.merge.ensures.union c.merge.ensures.decls c.merge.ensures.whole
    (λ (t : TablesState) union decls whole.
    subst (λ (w : Sharded). IsMergeOf w t) c.self.view_is
    (record {
      decls = decls;
      share = whole;
      union = subst (λ (ps : List TablesState). HasNamesApart (owner_among (length ps)) f i.time (state_in ps) → IsUnion (owner_among (length ps)) f i.time (length ps) (state_in ps) t.state) is union;
    }))
