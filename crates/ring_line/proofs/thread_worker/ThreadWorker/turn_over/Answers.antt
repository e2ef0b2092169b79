use Rattle.std.proofs.Common.{◌≡◌, List, [], ◌∷◌, ◌++◌, drop, ap, sym, ◌∙◌, subst}
use Rattle.rtrb.specs.Ring.{received}
use Rattle.shard_machine.specs.declared.event.Answer.{Answer}
use Rattle.shard_machine.proofs.Sent.{append_nil}
use Rattle.ring_line.specs.Packs.{Packed, answers_in, answers_of}
use Rattle.ring_line.specs.ThreadWorkers.{IsLast}
use Rattle.ring_line.proofs.Packing.{answers_snoc, answered_past, last_more}
use Rattle.ring_line.proofs.thread_worker.ThreadWorker.turn_over.Goals as goal

pub returns-clause-stands : goal.returns-clause-stands
returns-clause-stands g c = λ func share packets answers st.
    let old = c.args.self.now in
    let p : Packed = c.take-pack.result in
    let here : Packed = c.replace-used.new.dest in
    let is : here ≡ p = c.replace-used.ensures.after in
    let came : List Packed = received old.back in
    let none : drop old.at (answers_of old.current) ≡ [] = answered_past old.current.packets old.current.answers old.at c.requires in
    record {
      opened = st.opened;
      served = st.served;
      packs = st.packs;
      pushed = st.pushed;
      packets_are = st.packets_are;
      answers_are = ap answers_in c.take-pack.ensures.received ∙ answers_snoc came p ∙ ap (λ (as_ : List Answer). as_ ++ answers_of p) (st.answers_are ∙ ap (λ (as_ : List Answer). answers ++ as_) none ∙ append_nil answers)
          ∙ ap (λ (q : Packed). answers ++ answers_of q) (sym is);
      last = subst (λ (ps : List Packed). IsLast ps here) (sym c.take-pack.ensures.received) (subst (λ (q : Packed). IsLast (came ++ p ∷ []) q) (sym is) (last_more came p));
    }
