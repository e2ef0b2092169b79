use Rattle.std.proofs.Common.{◌≡◌, Some, slice_get, length, refl, subst}
use Rattle.std.proofs.lemmas.Option.{slice_get_read}
use Rattle.ring_line.specs.QueueWorkers.{QueueWorkerHasAnswer}
use Rattle.ring_line.proofs.Lying.{one_first, one_queue_worker}
use Rattle.ring_line.proofs.line.Line.answer.Goals as goal

pub answer-answer-requires : goal.answer-answer-requires
answer-answer-requires g c =
    let old = c.args.self.now in
    let q = c.first-queue.result in
    let queue_worker = c.item.result.now in
    let has = c.requires in
    let at : slice_get old.queue_workers q ≡ Some queue_worker = slice_get_read old.queue_workers (length old.queue_workers) q queue_worker refl c.first-queue.ensures.there c.item.ensures in
    subst (λ p. QueueWorkerHasAnswer p) (one_queue_worker old.queue_workers has.queue q has.queue_worker queue_worker (one_first has.queue q old.order.items has.first c.first-queue.ensures.first) has.there at) has.has

pub returns : goal.returns
returns g c =
    let old = c.args.self.now in
    let q = c.first-queue.result in
    let queue_worker = c.item.result.now in
    let at : slice_get old.queue_workers q ≡ Some queue_worker = slice_get_read old.queue_workers (length old.queue_workers) q queue_worker refl c.first-queue.ensures.there c.item.ensures in
    record { first = c.first-queue.ensures.first; queue_worker = queue_worker; there = at; answer = c.answer-answer.ensures }
