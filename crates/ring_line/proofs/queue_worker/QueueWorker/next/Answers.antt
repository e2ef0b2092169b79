use Rattle.std.proofs.Common.{sym, subst}
use Rattle.ring_line.specs.Handed.{IsNext}
use Rattle.ring_line.specs.QueueWorkers.{QueueWorkerHasAnswer, QueueWorkerHalted}
use Rattle.ring_line.proofs.queue_worker.QueueWorker.next.Goals as goal

pub returns-in-Threaded : goal.returns-in-Threaded
returns-in-Threaded g c = subst (λ p. IsNext c.next.result (QueueWorkerHasAnswer p) (QueueWorkerHalted p)) (sym c.in-Threaded.is) c.next.ensures

pub returns-in-Inline : goal.returns-in-Inline
returns-in-Inline g c = subst (λ p. IsNext c.next-in-Inline.result (QueueWorkerHasAnswer p) (QueueWorkerHalted p)) (sym c.in-Inline.is) c.next-in-Inline.ensures
