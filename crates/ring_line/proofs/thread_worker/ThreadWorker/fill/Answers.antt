use Rattle.std.proofs.Common.{List, [], ◌∷◌, ◌++◌, ap, sym, ◌∙◌}
use Rattle.nf_base.specs.declared.packet.Packet.{Packet}
use Rattle.shard_machine.proofs.Sent.{append_twice}
use Rattle.ring_line.specs.Packs.{packets_in}
use Rattle.ring_line.specs.Handled.{CanServe}
use Rattle.ring_line.proofs.ThreadWorkers.{all_more}
use Rattle.ring_line.proofs.thread_worker.ThreadWorker.fill.Goals as goal

pub returns-clause-stands : goal.returns-clause-stands
returns-clause-stands c = λ func share packets answers st can.
    let p = c.args.packet.now in
    let old = c.args.self.now.filling.packets in
    record {
      opened = st.opened;
      served = all_more (CanServe func) packets p st.served can;
      packs = st.packs;
      pushed = st.pushed;
      packets_are = ap (λ (ps : List Packet). ps ++ p ∷ []) st.packets_are ∙ append_twice (packets_in st.packs) old (p ∷ []) ∙ ap (λ (ps : List Packet). packets_in st.packs ++ ps) (sym c.push.ensures.packets);
      answers_are = st.answers_are;
      last = st.last;
    }
