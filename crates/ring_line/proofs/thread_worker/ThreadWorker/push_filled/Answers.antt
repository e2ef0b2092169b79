use Rattle.std.proofs.Common.{◌≡◌, List, [], ◌∷◌, ◌++◌, map, ap, sym, ◌∙◌}
use Rattle.shard_machine.proofs.Sent.{append_nil, map_append}
use Rattle.ring_line.specs.declared.item.Item.{Item}
use Rattle.ring_line.specs.declared.item.Item.TheVariants.{Work}
use Rattle.ring_line.specs.Packs.{Packed, empty_pack, packets_in}
use Rattle.ring_line.specs.WorkerLoops.{as_work}
use Rattle.ring_line.proofs.Packing.{packets_snoc}
use Rattle.ring_line.proofs.thread_worker.ThreadWorker.push_filled.Goals as goal

pub returns-clause-stands : goal.returns-clause-stands
returns-clause-stands g c = λ func share packets answers st.
    let p : Packed = c.args.self.now.filling in
    let out : Packed = c.replace-full.result in
    let left : Packed = c.replace-full.new.dest in
    let all : List Packed = st.packs ++ p ∷ [] in
    let empty : left ≡ empty_pack = c.replace-full.ensures.after ∙ c.clear.ensures in
    record {
      opened = st.opened;
      served = st.served;
      packs = all;
      pushed = c.give.ensures.sent ∙ ap (λ (items : List Item). items ++ Work out ∷ []) st.pushed
          ∙ ap (λ (q : Packed). map as_work st.packs ++ Work q ∷ []) c.replace-full.ensures.value ∙ sym (map_append as_work st.packs (p ∷ []));
      packets_are = st.packets_are ∙ sym (packets_snoc st.packs p) ∙ sym (append_nil (packets_in all)) ∙ ap (λ (q : Packed). packets_in all ++ q.packets) (sym empty);
      answers_are = st.answers_are;
      last = st.last;
    }
