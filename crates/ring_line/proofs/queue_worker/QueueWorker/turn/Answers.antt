use Rattle.std.proofs.Common.{subst}
use Rattle.ring_line.specs.QueueWorkers.{StandsAs}
use Rattle.ring_line.proofs.queue_worker.QueueWorker.turn.Goals as goal

pub returns-in-Threaded-clause-stands : goal.returns-in-Threaded-clause-stands
returns-in-Threaded-clause-stands g c = λ f share packets answers st. record {
  func = st.func;
  same = st.same;
  stands = c.turn.ensures.stands st.func share packets answers (subst (λ p. StandsAs p st.func share packets answers) c.in-Threaded.is st.stands);
}

pub returns-in-Inline-clause-stands : goal.returns-in-Inline-clause-stands
returns-in-Inline-clause-stands g c = λ f share packets answers st. record {
  func = st.func;
  same = st.same;
  stands = c.turn-in-Inline.ensures.stands st.func share packets answers (subst (λ p. StandsAs p st.func share packets answers) c.in-Inline.is st.stands);
}
