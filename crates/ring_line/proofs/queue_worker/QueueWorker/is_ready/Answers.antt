use Rattle.std.proofs.Common.{sym, subst}
use Rattle.ring_line.specs.QueueWorkers.{QueueWorkerHasAnswer}
use Rattle.ring_line.proofs.queue_worker.QueueWorker.is_ready.Goals as goal

pub returns-in-Threaded-clause-yes : goal.returns-in-Threaded-clause-yes
returns-in-Threaded-clause-yes g c = λ e. subst (λ p. QueueWorkerHasAnswer p) (sym c.in-Threaded.is) (c.is_ready.ensures.yes e)

pub returns-in-Threaded-clause-all : goal.returns-in-Threaded-clause-all
returns-in-Threaded-clause-all g c = λ h. c.is_ready.ensures.all (subst (λ p. QueueWorkerHasAnswer p) c.in-Threaded.is h)

pub returns-in-Inline-clause-yes : goal.returns-in-Inline-clause-yes
returns-in-Inline-clause-yes g c = λ e. subst (λ p. QueueWorkerHasAnswer p) (sym c.in-Inline.is) (c.is_ready-in-Inline.ensures.yes e)

pub returns-in-Inline-clause-all : goal.returns-in-Inline-clause-all
returns-in-Inline-clause-all g c = λ h. c.is_ready-in-Inline.ensures.all (subst (λ p. QueueWorkerHasAnswer p) c.in-Inline.is h)
