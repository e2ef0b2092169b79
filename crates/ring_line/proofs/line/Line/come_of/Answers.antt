use Rattle.std.proofs.Common.{◌≡◌, Some, slice_get, length, refl, sym, ◌∙◌, subst}
use Rattle.std.proofs.lemmas.Option.{same_Some, slice_get_read}
use Rattle.ring_line.specs.QueueWorkers.{QueueWorkerHalted}
use Rattle.ring_line.proofs.line.Line.come_of.Goals as goal

pub returns-in-Ready : goal.returns-in-Ready
returns-in-Ready g c =
    let old = c.args.self.now in
    let q = c.args.queue in
    let queue_worker = c.item.result.now in
    let at : slice_get old.queue_workers q ≡ Some queue_worker = slice_get_read old.queue_workers (length old.queue_workers) q queue_worker refl c.requires.there c.item.ensures in
    record { queue = q; first = c.requires.first; queue_worker = queue_worker; there = at; has = rw c.in-Ready.is at c.next.ensures }

pub returns-in-Halted : goal.returns-in-Halted
returns-in-Halted g c =
    let old = c.args.self.now in
    let q = c.args.queue in
    let queue_worker = c.item.result.now in
    let at : slice_get old.queue_workers q ≡ Some queue_worker = slice_get_read old.queue_workers (length old.queue_workers) q queue_worker refl c.requires.there c.item.ensures in
    record { first = c.requires.first; halted = λ p e. subst (λ z. QueueWorkerHalted z c.in-Halted.halt) (same_Some queue_worker p (sym at ∙ e)) (rw c.in-Halted.is at c.next.ensures) }
