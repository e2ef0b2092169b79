use Rattle.std.proofs.Common.{◌≡◌, List, ◌++◌, All, ap, sym, ◌∙◌, subst}
use Rattle.nf_base.specs.declared.packet.Packet.{Packet}
use Rattle.nf_base.specs.Functions.{function_of}
use Rattle.nf_base.specs.Step.{opening}
use Rattle.nf_engine.specs.View.{Fixed}
use Rattle.shard_machine.proofs.Sent.{append_nil}
use Rattle.ring_line.specs.Packs.{Packed, answers_of}
use Rattle.ring_line.specs.Handled.{CanServe}
use Rattle.ring_line.proofs.InlineWorkers.{came_so_far, waiting_served, came_of}
use Rattle.ring_line.proofs.inline_worker.InlineWorker.turn_over.Goals as goal

pub returns-clause-stands : goal.returns-clause-stands
returns-clause-stands g c = λ func share packets answers st.
    let old = c.args.self.now in
    let f = function_of func in
    let queue_handler = c.answer.new.self in
    let here : Packed = c.answer.new.pack in
    let left : Packed = c.clear.new.self in
    let moved : here.packets ≡ old.filling.packets = c.answer.ensures.packets ∙ ap (λ (p : Packed). p.packets) c.swap.ensures.y_after in
    let before = came_so_far old func share packets answers st c.requires.past c.requires.running in
    let served = subst (λ (p : Packed). All (CanServe old.queue_handler.func) p.packets) (sym c.swap.ensures.y_after) (waiting_served old func share packets answers st) in
    let came = c.answer.ensures.came (opening f) st.worked answers served before in
    record {
      func_is = c.answer.ensures.func ∙ st.func_is;
      share_is = ap (λ (x : Fixed). x.share) c.answer.ensures.fixed ∙ st.share_is;
      served = st.served;
      worked = st.worked ++ here.packets;
      packets_are = st.packets_are ∙ ap (λ (ps : List Packet). st.worked ++ ps) (sym moved) ∙ sym (append_nil (st.worked ++ here.packets))
          ∙ ap (λ (p : Packed). (st.worked ++ here.packets) ++ p.packets) (sym c.clear.ensures);
      came = came_of old func share packets answers st (st.worked ++ here.packets) (answers ++ answers_of here) queue_handler.halt queue_handler.tables.state came;
      last = c.answer.ensures.halt;
    }
