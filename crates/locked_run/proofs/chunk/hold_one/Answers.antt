use Rattle.std.proofs.Common.{◌∙◌, OnOk, subst}
use Rattle.stream_run.specs.Runs.{Handled}
use Rattle.stream_run.specs.Texts.{piece}
use Rattle.stream_run.specs.Writing.{AreGrown}
use Rattle.locked_run.proofs.Chunked.{told_plain, told_whole}
use Rattle.locked_run.proofs.chunk.hold_one.Goals as goal

pub returns-in-Plain-clause-ok : goal.returns-in-Plain-clause-ok
returns-in-Plain-clause-ok c = λ arrival at.
    subst (λ (h : Handled). OnOk c.hold_all.result (AreGrown (λ k format. piece format c.args.ports k h) c.args.sinks.now c.hold_all.new.sinks))
    (c.handled-handled.ensures arrival at ∙ told_plain arrival c.args.worker c.in-Plain.action c.args.none.now c.args.told c.requires.none c.in-Plain.is)
    c.hold_all.ensures.ok

pub returns-in-Whole-clause-ok : goal.returns-in-Whole-clause-ok
returns-in-Whole-clause-ok c = λ arrival at.
    subst (λ (h : Handled). OnOk c.hold_all-in-Whole.result (AreGrown (λ k format. piece format c.args.ports k h) c.args.sinks.now c.hold_all-in-Whole.new.sinks))
    (c.handled-handled-in-Whole.ensures arrival at ∙ told_whole arrival c.args.worker c.in-Whole.done c.args.told c.in-Whole.is)
    c.hold_all-in-Whole.ensures.ok
