use Rattle.std.proofs.Common.{◌≡◌, ◌<◌, Some, slice_get, length, refl, ◌∙◌, arith, ◌≤◌, ℕ, All, sym, subst}
use Rattle.std.proofs.lemmas.Option.{slice_get_read}
use Rattle.std.specs.Vec.{vec_capacity}
use Rattle.std.proofs.lemmas.List.{length-set}
use Rattle.shard_machine.specs.Machine.{packets_at}
use Rattle.ring_line.specs.Plays.{collected_at}
use Rattle.ring_line.proofs.Lining.{StandAt, each_set}
use Rattle.ring_line.proofs.Flights.{flights_set}
use Rattle.ring_line.proofs.line.Line.flush.Goals as goal

pub loop-queue-preserved : goal.loop-queue-preserved
loop-queue-preserved g c =
    let inv = c.loop-queue.invariant in
    let here = c.loop-queue.self in
    let q = c.loop-queue.queue in
    let queue_worker = c.item_mut.result.now in
    let test = c.loop-queue-test.true in
    let lt : q < length here.queue_workers = omega (arith, test, inv.queues, c.len-queue-end.ensures) in
    let at : slice_get here.queue_workers q ≡ Some queue_worker = slice_get_read here.queue_workers (length here.queue_workers) q queue_worker refl lt c.item_mut.ensures.value in
    record {
      stands = λ x packets got begun.
          let st = inv.stands x packets got begun in
          record {
            count = length-set here.queue_workers q c.flush.new.self ∙ st.count;
            order = st.order;
            time = st.time;
            queue_workers = each_set (StandAt x packets got) here.queue_workers q c.flush.new.self st.queue_workers
                (c.flush.ensures.stands x.function (x.share q) (packets_at x.queue q packets) (collected_at q got) (st.queue_workers q queue_worker at));
          };
      order = inv.order;
      queues = length-set here.queue_workers q c.flush.new.self ∙ inv.queues;
    }

pub invariant_of-self-clause-flights : goal.invariant_of-self-clause-flights
invariant_of-self-clause-flights g c =
    let here = c.loop-queue.self in
    let q = c.loop-queue.queue in
    let queue_worker = c.item_mut.result.now in
    let test = c.loop-queue-test.true in
    let lt : q < length here.queue_workers = omega (arith, test, c.loop-queue.invariant.queues, c.len-queue-end.ensures) in
    let at : slice_get here.queue_workers q ≡ Some queue_worker = slice_get_read here.queue_workers (length here.queue_workers) q queue_worker refl lt c.item_mut.ensures.value in
    let set = flights_set here.queue_workers q queue_worker c.flush.new.self at in
    omega (arith, set, c.flush.ensures.in_flight, here.flights)

pub invariant_of-self-clause-below : goal.invariant_of-self-clause-below
invariant_of-self-clause-below g c =
    let here = c.loop-queue.self in
    subst (λ (n : ℕ). All (λ (q : ℕ). q < n) here.order.items) (sym (length-set here.queue_workers c.loop-queue.queue c.flush.new.self)) here.below

pub invariant_of-self-clause-enough : goal.invariant_of-self-clause-enough
invariant_of-self-clause-enough g c =
    let here = c.loop-queue.self in
    subst (λ (n : ℕ). n ≤ vec_capacity here.parts) (sym (length-set here.queue_workers c.loop-queue.queue c.flush.new.self)) here.enough
