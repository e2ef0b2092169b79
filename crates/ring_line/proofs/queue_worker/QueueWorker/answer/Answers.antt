use Rattle.std.proofs.Common.{sym, subst}
use Rattle.short_answers.specs.Answers.{done_told}
use Rattle.ring_line.specs.QueueWorkers.{QueueWorkerHasAnswer, QueueWorkerFirstAnswer}
use Rattle.ring_line.proofs.queue_worker.QueueWorker.answer.Goals as goal

pub answer-requires : goal.answer-requires
answer-requires g c = subst (λ p. QueueWorkerHasAnswer p) c.in-Threaded.is c.requires

pub answer-requires-in-Inline : goal.answer-requires-in-Inline
answer-requires-in-Inline g c = subst (λ p. QueueWorkerHasAnswer p) c.in-Inline.is c.requires

pub returns-in-Threaded : goal.returns-in-Threaded
returns-in-Threaded g c = subst (λ p. QueueWorkerFirstAnswer p (record { packet = c.answer.result.packet.now; done = done_told c.answer.result.told })) (sym c.in-Threaded.is) c.answer.ensures

pub returns-in-Inline : goal.returns-in-Inline
returns-in-Inline g c =
    subst (λ p. QueueWorkerFirstAnswer p (record { packet = c.answer-in-Inline.result.packet.now; done = done_told c.answer-in-Inline.result.told })) (sym c.in-Inline.is) c.answer-in-Inline.ensures
