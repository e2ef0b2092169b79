use Rattle.std.proofs.Common.{subst}
use Rattle.ring_line.specs.QueueWorkers.{QueueWorkerHasAnswer, QueueWorkerFirstAnswer, StandsAs}
use Rattle.ring_line.proofs.queue_worker.QueueWorker.pass.Goals as goal

pub pass-requires : goal.pass-requires
pass-requires g c = subst (λ p. QueueWorkerHasAnswer p) c.in-Threaded.is c.requires

pub pass-requires-in-Inline : goal.pass-requires-in-Inline
pass-requires-in-Inline g c = subst (λ p. QueueWorkerHasAnswer p) c.in-Inline.is c.requires

pub returns-in-Threaded-clause-stands : goal.returns-in-Threaded-clause-stands
returns-in-Threaded-clause-stands g c = λ f share packets answers one st is. record {
  func = st.func;
  same = st.same;
  stands = c.pass.ensures.stands st.func share packets answers one (subst (λ p. StandsAs p st.func share packets answers) c.in-Threaded.is st.stands)
      (subst (λ p. QueueWorkerFirstAnswer p one) c.in-Threaded.is is);
}

pub returns-in-Inline-clause-stands : goal.returns-in-Inline-clause-stands
returns-in-Inline-clause-stands g c = λ f share packets answers one st is. record {
  func = st.func;
  same = st.same;
  stands = c.pass-in-Inline.ensures.stands st.func share packets answers one (subst (λ p. StandsAs p st.func share packets answers) c.in-Inline.is st.stands)
      (subst (λ p. QueueWorkerFirstAnswer p one) c.in-Inline.is is);
}
