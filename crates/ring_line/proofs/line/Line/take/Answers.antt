use Rattle.std.proofs.Common.{sym, subst}
use Rattle.ring_line.specs.Lines.{LineFirstAnswer}
use Rattle.ring_line.proofs.line.Line.take.Goals as goal

pub returns-clause-stands : goal.returns-clause-stands
returns-clause-stands g c = λ x packets got st. c.pass.ensures.stands x packets c.copy_of-collected.result got st (subst (λ d. LineFirstAnswer c.args.self.now d) (sym c.copy_of-collected.ensures) c.answer.ensures)
