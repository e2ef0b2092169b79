use Rattle.std.proofs.Common.{◌≡◌, ℕ, suc, ◌+◌, List, [], ◌∷◌, ◌++◌, drop, ap, sym, ◌∙◌, subst, arith}
use Rattle.nf_base.specs.Functions.{function_of}
use Rattle.nf_base.specs.Step.{opening}
use Rattle.shard_machine.specs.declared.event.Answer.{Answer}
use Rattle.shard_machine.proofs.Sent.{append_twice}
use Rattle.ring_line.specs.Packs.{answers_of}
use Rattle.ring_line.specs.Handled.{CameTo}
use Rattle.ring_line.proofs.Packing.{answered_next}
use Rattle.ring_line.proofs.inline_worker.InlineWorker.pass.Goals as goal

pub returns-clause-stands : goal.returns-clause-stands
returns-clause-stands g c = λ func share packets answers one st is.
    let old = c.args.self.now in
    let f = function_of func in
    let up : suc old.at ≡ old.at + 1 = omega arith in
    let next = answered_next old.current.packets old.current.answers old.at one.packet one.done is.packet is.done in
    let told : answers ++ drop old.at (answers_of old.current) ≡ (answers ++ one ∷ []) ++ drop (old.at + 1) (answers_of old.current) =
    ap (λ (as_ : List Answer). answers ++ as_) next ∙ sym (append_twice answers (one ∷ []) (drop (suc old.at) (answers_of old.current)))
    ∙ ap (λ (m : ℕ). (answers ++ one ∷ []) ++ drop m (answers_of old.current)) up in
    record {
      func_is = st.func_is;
      share_is = st.share_is;
      served = st.served;
      worked = st.worked;
      packets_are = st.packets_are;
      came = subst (λ (as_ : List Answer). CameTo f share (opening f) st.worked as_ old.queue_handler.halt old.queue_handler.tables.state) told st.came;
      last = st.last;
    }
