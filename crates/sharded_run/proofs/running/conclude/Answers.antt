use Rattle.std.proofs.Common.{◌≡◌, ◌∙◌, refl, sym, ap, subst}
use Rattle.std.proofs.lemmas.Option.{same_Some}
use Rattle.nf_base.specs.Functions.{function_of}
use Rattle.nf_base.specs.Runs.{RunResult}
use Rattle.nf_base.specs.declared.state.State.{State}
use Rattle.shard_core.proofs.Finishing.{finishes}
use Rattle.sharded_run.specs.Setups.{setup_of}
use Rattle.stream_run.specs.Rules.{shard_rule, AreBy}
use Rattle.sharded_run.proofs.Rising.{never_fall}
use Rattle.sharded_run.proofs.Lined.{one_queue, ran_of, worked_stand}
use Rattle.sharded_run.proofs.Begun.{is_merge}
use Rattle.sharded_run.proofs.running.conclude.Goals as goal

pub returns : goal.returns
returns c = λ keys workers hs v several alike h made.
    let f = function_of c.args.func.now in
    let ran = ran_of f keys workers h.share hs v h.at several alike (worked_stand f keys workers hs v h) in
    let merge = c.in_ok-tables.ensures in
    let fin = finishes (setup_of f keys workers h.share) h.at v c.in_ok-tables.tables h.stands made.none (never_fall 0 h.at.dispatched h.last h.rises) (one_queue f keys workers h.share h.at.dispatched alike h.inputs)
    (is_merge v c.args.func.now c.args.parts.now c.args.time c.in_ok-tables.tables made merge.decls merge.whole merge.union) in
    let same : fin.ran ≡ ran.ran = same_Some _ _ (sym fin.is ∙ ran.is) in
    let state : c.in_ok-state.state ≡ ran.ran.state = c.in_ok-state.ensures ∙ fin.state ∙ ap (λ (x : RunResult). x.state) same in
    record { ending_is = refl; packets_is = refl; sharded = subst (λ (s : State). AreBy (shard_rule keys workers) f hs s) (sym state) ran.sharded }
