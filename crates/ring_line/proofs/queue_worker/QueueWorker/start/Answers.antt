use Rattle.ring_line.proofs.queue_worker.QueueWorker.start.Goals as goal

pub returns-in-Some-clause-stands : goal.returns-in-Some-clause-stands
returns-in-Some-clause-stands g c = record { func = c.in_ok-text.text; same = c.in_ok-text.ensures; stands = rw c.in-Some.is at c.in_ok-started.ensures.stands }
