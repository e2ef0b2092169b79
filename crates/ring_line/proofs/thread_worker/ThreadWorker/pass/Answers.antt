use Rattle.std.proofs.Common.{◌≡◌, ℕ, suc, ◌+◌, List, [], ◌∷◌, ◌++◌, drop, ap, sym, ◌∙◌, arith}
use Rattle.shard_machine.specs.declared.event.Answer.{Answer}
use Rattle.shard_machine.proofs.Sent.{append_twice}
use Rattle.ring_line.specs.Packs.{answers_of}
use Rattle.ring_line.proofs.Packing.{answered_next}
use Rattle.ring_line.proofs.thread_worker.ThreadWorker.pass.Goals as goal

pub returns-clause-stands : goal.returns-clause-stands
returns-clause-stands c = λ func share packets answers one st is.
    let old = c.args.self.now in
    let up : suc old.at ≡ old.at + 1 = omega arith in
    let next = answered_next old.current.packets old.current.answers old.at one.packet one.done is.packet is.done in
    record {
      opened = st.opened;
      served = st.served;
      packs = st.packs;
      pushed = st.pushed;
      packets_are = st.packets_are;
      answers_are = st.answers_are ∙ ap (λ (as_ : List Answer). answers ++ as_) next ∙ sym (append_twice answers (one ∷ []) (drop (suc old.at) (answers_of old.current)))
          ∙ ap (λ (n : ℕ). (answers ++ one ∷ []) ++ drop n (answers_of old.current)) up;
      last = st.last;
    }
