use Rattle.ring_line.proofs.line.Line.collect.Goals as goal

pub returns-in-Answer-clause-collects : goal.returns-in-Answer-clause-collects
returns-in-Answer-clause-collects g c = λ x packets got st. c.take.ensures.stands x packets got (c.await_first.ensures.stands x packets got st)

pub returns-in-Stop-clause-collects : goal.returns-in-Stop-clause-collects
returns-in-Stop-clause-collects g c = λ x packets got st. (c.await_first.ensures.stands x packets got st, rw c.in-Stop.is at c.await_first.ensures.first)
