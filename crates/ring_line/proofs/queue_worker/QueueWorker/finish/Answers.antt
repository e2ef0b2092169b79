use Rattle.std.proofs.Common.{sym, subst}
use Rattle.nf_base.specs.Text.{Function}
use Rattle.ring_line.specs.Handed.{Finishes}
use Rattle.ring_line.specs.ThreadWorkers.{HasHalted}
use Rattle.ring_line.specs.InlineWorkers.{InlineWorkerHalted}
use Rattle.ring_line.specs.QueueWorkers.{StandsAs, QueueWorkerHalted}
use Rattle.ring_line.proofs.queue_worker.QueueWorker.finish.Goals as goal

pub returns-in-Threaded : goal.returns-in-Threaded
returns-in-Threaded g c = λ f share packets answers st.
    subst (λ p. Finishes (QueueWorkerHalted p) f share packets answers c.finish.result) (sym c.in-Threaded.is)
    (subst (λ (h : Function). Finishes (HasHalted c.in-Threaded.thread_worker) h share packets answers c.finish.result) st.same
    (c.finish.ensures st.func share packets answers (subst (λ p. StandsAs p st.func share packets answers) c.in-Threaded.is st.stands)))

pub returns-in-Inline : goal.returns-in-Inline
returns-in-Inline g c = λ f share packets answers st.
    subst (λ p. Finishes (QueueWorkerHalted p) f share packets answers c.finish-in-Inline.result) (sym c.in-Inline.is)
    (subst (λ (h : Function). Finishes (InlineWorkerHalted c.in-Inline.inline_worker) h share packets answers c.finish-in-Inline.result) st.same
    (c.finish-in-Inline.ensures st.func share packets answers (subst (λ p. StandsAs p st.func share packets answers) c.in-Inline.is st.stands)))
