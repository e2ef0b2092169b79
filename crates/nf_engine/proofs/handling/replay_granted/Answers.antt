use Rattle.std.proofs.Common.{◌≡◌, None, Some, IfSome, subst, true}
use Rattle.nf_base.specs.Functions.{function_of}
use Rattle.nf_base.specs.Operations.{Stops}
use Rattle.nf_base.specs.Shares.{AreOwn}
use Rattle.nf_base.specs.Step.{step_by}
use Rattle.nf_engine.specs.Stops.{halts, full_stops}
use Rattle.nf_engine.proofs.Finishing.{all_are_own}
use Rattle.nf_engine.proofs.Undivided.{none_weaker, strict_whole}
use Rattle.nf_engine.proofs.handling.replay_granted.Goals as goal

pub returns-clause-granted : goal.returns-clause-granted
returns-clause-granted c =
    let t = c.args.tables.now in
    let f = function_of c.args.func.now in
    let p = c.args.packet.now in
    let picks = c.args.picks.now in
    subst (λ (stops : Stops). IfSome c.replay_by.result (λ done. step_by stops f t.state p picks ≡ Some (record { state = c.replay_by.new.tables.state; done = done })))
    (strict_whole t.share c.requires.whole) c.replay_by.ensures.by

pub returns-clause-none : goal.returns-clause-none
returns-clause-none c =
    let t = c.args.tables.now in
    let f = function_of c.args.func.now in
    let p = c.args.packet.now in
    let picks = c.args.picks.now in
    none_weaker c.replay_by.result (AreOwn t.share picks → step_by (halts true t.share) f t.state p picks ≡ None) (step_by full_stops f t.state p picks ≡ None)
    (λ h. subst (λ (stops : Stops). step_by stops f t.state p picks ≡ None) (strict_whole t.share c.requires.whole) (h (all_are_own t.share c.requires.whole picks))) c.replay_by.ensures.bad
