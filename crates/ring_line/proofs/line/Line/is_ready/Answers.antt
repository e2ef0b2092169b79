use Rattle.std.proofs.Common.{◌≡◌, Some, slice_get, length, refl, subst}
use Rattle.std.proofs.lemmas.Option.{slice_get_read}
use Rattle.ring_line.specs.QueueWorkers.{QueueWorkerHasAnswer}
use Rattle.ring_line.proofs.Lying.{one_first, one_queue_worker}
use Rattle.ring_line.proofs.line.Line.is_ready.Goals as goal

pub returns-clause-yes : goal.returns-clause-yes
returns-clause-yes g c = λ e.
    let old = c.args.self.now in
    let q = c.first-queue.result in
    let queue_worker = c.item.result.now in
    let at : slice_get old.queue_workers q ≡ Some queue_worker = slice_get_read old.queue_workers (length old.queue_workers) q queue_worker refl c.first-queue.ensures.there c.item.ensures in
    record { queue = q; first = c.first-queue.ensures.first; queue_worker = queue_worker; there = at; has = c.is_ready.ensures.yes e }

pub returns-clause-all : goal.returns-clause-all
returns-clause-all g c = λ has.
    let old = c.args.self.now in
    let q = c.first-queue.result in
    let queue_worker = c.item.result.now in
    let at : slice_get old.queue_workers q ≡ Some queue_worker = slice_get_read old.queue_workers (length old.queue_workers) q queue_worker refl c.first-queue.ensures.there c.item.ensures in
    c.is_ready.ensures.all (subst (λ p. QueueWorkerHasAnswer p) (one_queue_worker old.queue_workers has.queue q has.queue_worker queue_worker (one_first has.queue q old.order.items has.first c.first-queue.ensures.first) has.there at) has.has)
