use Rattle.std.proofs.Common.{◌≡◌, ◌∷◌, ◌++◌, [], ap, sym, ◌∙◌, subst}
use Rattle.nf_base.specs.declared.done.Done.{Done}
use Rattle.short_answers.specs.Answers.{done_told}
use Rattle.stream_run.specs.Writing.{AllGoOn}
use Rattle.sharded_run.proofs.writing.write_told.Goals as goal

pub returns-in-Plain-clause-goes_on : goal.returns-in-Plain-clause-goes_on
returns-in-Plain-clause-goes_on g c = λ mode workers card format hs held.
    let same : c.done.result.now ≡ done_told c.args.told = c.done.ensures ∙ c.set.ensures ∙ sym (ap done_told c.in-Plain.is) in
    subst (λ (d : Done). AllGoOn mode workers card format c.args.ports (hs ++ record { arrival = c.args.kept.now; worker = c.args.queue; done = d } ∷ []) (g.F.Files.told c.write_one.new.files) c.write_one.new.sinks c.write_one.result) same
    (c.write_one.ensures.goes_on mode workers card format hs held)

pub returns-in-Whole-clause-goes_on : goal.returns-in-Whole-clause-goes_on
returns-in-Whole-clause-goes_on g c = λ mode workers card format hs held.
    let same : c.in-Whole.done.now ≡ done_told c.args.told = sym (ap done_told c.in-Whole.is) in
    subst (λ (d : Done). AllGoOn mode workers card format c.args.ports (hs ++ record { arrival = c.args.kept.now; worker = c.args.queue; done = d } ∷ []) (g.F.Files.told c.write_one-in-Whole.new.files) c.write_one-in-Whole.new.sinks c.write_one-in-Whole.result) same
    (c.write_one-in-Whole.ensures.goes_on mode workers card format hs held)
