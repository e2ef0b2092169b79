use Rattle.std.proofs.Common.{Some, ap, sym}
use Rattle.nf_meaning.proofs.question.bind_found.Goals as goal

pub returns-in_ok-bind-in-Some-clause-bound : goal.returns-in_ok-bind-in-Some-clause-bound
returns-in_ok-bind-in-Some-clause-bound c = rw c.in-Some.is (λ left. ap Some (sym (c.in_ok-bind-in-Some.ensures.bound left)))
