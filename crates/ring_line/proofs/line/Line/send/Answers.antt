use Rattle.std.proofs.Common.{◌≡◌, ◌++◌, map, Some, slice_get, length, refl, ap, ◌∙◌, arith, ◌<◌, ◌≤◌, ℕ, All, sym, subst, ◌∷◌, []}
use Rattle.std.proofs.lemmas.Option.{slice_get_read}
use Rattle.std.specs.Vec.{vec_capacity}
use Rattle.std.proofs.lemmas.List.Elements.{All-push, All-same}
use Rattle.std.proofs.lemmas.List.{length-set, length_push}
use Rattle.shard_core.specs.declared.collected.Collected.{Collected}
use Rattle.shard_machine.specs.Machine.{packets_at}
use Rattle.ring_line.specs.Plays.{collected_at}
use Rattle.ring_line.proofs.Lining.{sent_queue_workers, sent_order}
use Rattle.ring_line.proofs.Flights.{flights_set}
use Rattle.ring_line.proofs.line.Line.send.Goals as goal

pub returns-clause-stands : goal.returns-clause-stands
returns-clause-stands g c = λ x packets got st can home.
    let old = c.args.self.now in
    let q = c.args.queue in
    let p = c.args.packet.now in
    let queue_worker = c.item_mut.result.now in
    let at : slice_get old.queue_workers q ≡ Some queue_worker = slice_get_read old.queue_workers (length old.queue_workers) q queue_worker refl c.requires.queue c.item_mut.ensures.value in
    record {
      count = length-set old.queue_workers q c.send.new.self ∙ st.count;
      order = ap (λ qs. map (λ (d : Collected). d.queue) got ++ qs) c.push_back_reserved.ensures.items ∙ sent_order x packets got old.order.items q p home st.order;
      time = st.time;
      queue_workers = sent_queue_workers x packets got old.queue_workers q p c.send.new.self home st.queue_workers
          (c.send.ensures.stands x.function (x.share q) (packets_at x.queue q packets) (collected_at q got) (st.queue_workers q queue_worker at) can);
    }

pub invariant_of-self-clause-flights : goal.invariant_of-self-clause-flights
invariant_of-self-clause-flights g c =
    let old = c.args.self.now in
    let q = c.args.queue in
    let queue_worker = c.item_mut.result.now in
    let at : slice_get old.queue_workers q ≡ Some queue_worker = slice_get_read old.queue_workers (length old.queue_workers) q queue_worker refl c.requires.queue c.item_mut.ensures.value in
    let set = flights_set old.queue_workers q queue_worker c.send.new.self at in
    let long = ap length c.push_back_reserved.ensures.items in
    omega (arith, set, c.send.ensures.in_flight, long, length_push old.order.items q, old.flights)

pub invariant_of-self-clause-below : goal.invariant_of-self-clause-below
invariant_of-self-clause-below g c =
    let old = c.args.self.now in
    let q = c.args.queue in
    subst (λ (n : ℕ). All (λ (w : ℕ). w < n) c.push_back_reserved.new.self.items) (sym (length-set old.queue_workers q c.send.new.self))
    (All-same (λ (w : ℕ). w < length old.queue_workers) c.push_back_reserved.new.self.items (old.order.items ++ q ∷ []) c.push_back_reserved.ensures.items
    (All-push (λ (w : ℕ). w < length old.queue_workers) old.order.items q old.below c.requires.queue))

pub invariant_of-self-clause-enough : goal.invariant_of-self-clause-enough
invariant_of-self-clause-enough g c =
    let old = c.args.self.now in
    subst (λ (n : ℕ). n ≤ vec_capacity old.parts) (sym (length-set old.queue_workers c.args.queue c.send.new.self)) old.enough
