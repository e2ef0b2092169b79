use Rattle.std.proofs.Common.{◌≡◌, List, [], ◌∷◌, ◌++◌, map, ap, sym, ◌∙◌}
use Rattle.rtrb.specs.Ring.{known_items, received, sent}
use Rattle.shard_machine.proofs.Sent.{map_append}
use Rattle.ring_line.specs.declared.item.Item.{Item}
use Rattle.ring_line.specs.declared.item.Item.TheVariants.{Work, End}
use Rattle.ring_line.specs.Packs.{Packed, packets_in}
use Rattle.ring_line.specs.WorkerLoops.{as_work, closed, given_by}
use Rattle.ring_line.proofs.Packing.{packets_snoc}
use Rattle.ring_line.proofs.Ends.{all_out}
use Rattle.ring_line.proofs.ThreadWorkers.{worker_ends}
use Rattle.ring_line.proofs.thread_worker.ThreadWorker.finish.Goals as goal

pub returns : goal.returns
returns g c = λ func share packets answers st.
    let thread_worker = c.args.self in
    let kept = c.join-ends.ensures in
    let p : Packed = thread_worker.filling in
    let all : List Packed = st.packs ++ p ∷ [] in
    let rest : List Item = known_items c.slots_beside.new.self in
    let left : List Packed = known_items c.slots_beside-2.new.self in
    let pushed = c.give.ensures.sent ∙ ap (λ (items : List Item). items ++ Work p ∷ []) st.pushed ∙ sym (map_append as_work st.packs (p ∷ [])) in
    let out : closed kept.packs ++ rest ≡ map as_work all ++ End ∷ [] =
    ap (λ (items : List Item). items ++ rest) (sym kept.received ∙ sym c.slots_beside.ensures.looked.1) ∙ c.slots_beside.ensures.fifo ∙ c.slots_beside.ensures.producer.1 ∙ c.give-2.ensures.sent
    ∙ ap (λ (items : List Item). items ++ End ∷ []) pushed in
    let same : kept.packs ≡ all = all_out all kept.packs rest out in
    let back : sent c.join-ends.result.ends.to ≡ received thread_worker.back ++ left =
    sym c.slots_beside-2.ensures.producer.1 ∙ sym c.slots_beside-2.ensures.fifo ∙ ap (λ (ps : List Packed). ps ++ left) c.slots_beside-2.ensures.looked.1 in
    worker_ends thread_worker (given_by thread_worker.child.promise) func share packets answers kept.packs (received thread_worker.back) left (sent c.join-ends.result.ends.to) c.join-ends.result.tables c.join-ends.result.halt st.opened st.served
    (ap packets_in same ∙ packets_snoc st.packs p ∙ sym st.packets_are) back st.answers_are st.last kept.decls kept.told
