use Rattle.std.proofs.Common.{List, [], ◌∷◌, ◌++◌, ap, sym, ◌∙◌}
use Rattle.nf_base.specs.declared.packet.Packet.{Packet}
use Rattle.shard_machine.proofs.Sent.{append_twice}
use Rattle.ring_line.specs.Handled.{CanServe}
use Rattle.ring_line.proofs.ThreadWorkers.{all_more}
use Rattle.ring_line.proofs.inline_worker.InlineWorker.send.Goals as goal

pub returns-clause-stands : goal.returns-clause-stands
returns-clause-stands g c = λ func share packets answers st can.
    let p = c.args.packet.now in
    let old = c.args.self.now.filling.packets in
    record {
      func_is = st.func_is;
      share_is = st.share_is;
      served = all_more (CanServe func) packets p st.served can;
      worked = st.worked;
      packets_are = ap (λ (ps : List Packet). ps ++ p ∷ []) st.packets_are ∙ append_twice st.worked old (p ∷ []) ∙ ap (λ (ps : List Packet). st.worked ++ ps) (sym c.push.ensures.packets);
      came = st.came;
      last = st.last;
    }
