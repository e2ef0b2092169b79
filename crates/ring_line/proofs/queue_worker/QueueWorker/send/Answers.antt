use Rattle.std.proofs.Common.{subst}
use Rattle.ring_line.specs.QueueWorkers.{StandsAs}
use Rattle.ring_line.proofs.QueueWorkers.{can_serve}
use Rattle.ring_line.proofs.queue_worker.QueueWorker.send.Goals as goal

pub returns-in-Threaded-clause-stands : goal.returns-in-Threaded-clause-stands
returns-in-Threaded-clause-stands g c = λ f share packets answers st can. record {
  func = st.func;
  same = st.same;
  stands = c.send.ensures.stands st.func share packets answers (subst (λ p. StandsAs p st.func share packets answers) c.in-Threaded.is st.stands) (can_serve st.func f c.args.packet.now st.same can);
}

pub returns-in-Inline-clause-stands : goal.returns-in-Inline-clause-stands
returns-in-Inline-clause-stands g c = λ f share packets answers st can. record {
  func = st.func;
  same = st.same;
  stands = c.send-in-Inline.ensures.stands st.func share packets answers (subst (λ p. StandsAs p st.func share packets answers) c.in-Inline.is st.stands) (can_serve st.func f c.args.packet.now st.same can);
}
