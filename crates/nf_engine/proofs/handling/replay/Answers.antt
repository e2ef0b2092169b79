use Rattle.std.proofs.Common.{◌≡◌, ◌∙◌, sym, None}
use Rattle.nf_base.specs.Functions.{function_of}
use Rattle.nf_base.specs.Shares.{AreOwn, share_stops}
use Rattle.nf_base.specs.Step.{step, step_by}
use Rattle.nf_engine.proofs.Finishing.{all_are_own}
use Rattle.nf_engine.proofs.Undivided.{whole_step, none_weaker}
use Rattle.nf_engine.proofs.handling.replay.Goals as goal

pub returns-clause-whole : goal.returns-clause-whole
returns-clause-whole c =
    let t = c.args.tables.now in
    let f = function_of c.args.func.now in
    let p = c.args.packet.now in
    let picks = c.args.picks.now in
    none_weaker c.replay_by.result (AreOwn t.share picks → step_by (share_stops t.share) f t.state p picks ≡ None) (t.share.of ≡ 1 → step f t.state p picks ≡ None)
    (λ h whole. sym (whole_step t.share f t.state p picks whole) ∙ h (all_are_own t.share whole picks)) c.replay_by.ensures.bad
