use Rattle.std.proofs.Common.{length, refl, sym, ap, ◌∙◌, subst}
use Rattle.nf_base.specs.Functions.{function_of}
use Rattle.ring_line.specs.Lines.{AreStarted}
use Rattle.ring_line.proofs.Lining.{started_stands}
use Rattle.ring_line.proofs.line.Line.start.Goals as goal

pub returns-in-Ok-clause-stands : goal.returns-in-Ok-clause-stands
returns-in-Ok-clause-stands g c = λ x is function workers.
    let f = function_of c.args.func.now in
    started_stands _ x f c.args.workers is function workers (ap length c.from_vec.ensures ∙ c.in-Ok.ensures.all) c.in_ok-order.ensures.items refl (subst (λ ps. AreStarted f c.args.workers ps) (sym c.from_vec.ensures) c.in-Ok.ensures.started)
