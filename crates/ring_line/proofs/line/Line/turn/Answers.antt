use Rattle.std.proofs.Common.{◌≡◌, Some, slice_get, length, refl, ◌∙◌, arith, ◌<◌, ◌≤◌, ℕ, All, sym, subst}
use Rattle.std.proofs.lemmas.Option.{slice_get_read}
use Rattle.std.specs.Vec.{vec_capacity}
use Rattle.std.proofs.lemmas.List.{length-set}
use Rattle.shard_machine.specs.Machine.{packets_at}
use Rattle.ring_line.specs.Plays.{collected_at}
use Rattle.ring_line.proofs.Lining.{StandAt, each_set}
use Rattle.ring_line.proofs.Flights.{flights_set}
use Rattle.ring_line.proofs.line.Line.turn.Goals as goal

pub returns-clause-stands : goal.returns-clause-stands
returns-clause-stands g c = λ x packets got st.
    let old = c.args.self.now in
    let q = c.args.queue in
    let queue_worker = c.item_mut.result.now in
    let at : slice_get old.queue_workers q ≡ Some queue_worker = slice_get_read old.queue_workers (length old.queue_workers) q queue_worker refl c.requires c.item_mut.ensures.value in
    record {
      count = length-set old.queue_workers q c.turn.new.self ∙ st.count;
      order = st.order;
      time = st.time;
      queue_workers = each_set (StandAt x packets got) old.queue_workers q c.turn.new.self st.queue_workers
          (c.turn.ensures.stands x.function (x.share q) (packets_at x.queue q packets) (collected_at q got) (st.queue_workers q queue_worker at));
    }

pub invariant_of-self-clause-flights : goal.invariant_of-self-clause-flights
invariant_of-self-clause-flights g c =
    let old = c.args.self.now in
    let q = c.args.queue in
    let queue_worker = c.item_mut.result.now in
    let at : slice_get old.queue_workers q ≡ Some queue_worker = slice_get_read old.queue_workers (length old.queue_workers) q queue_worker refl c.requires c.item_mut.ensures.value in
    let set = flights_set old.queue_workers q queue_worker c.turn.new.self at in
    omega (arith, set, c.turn.ensures.in_flight, old.flights)

pub invariant_of-self-clause-below : goal.invariant_of-self-clause-below
invariant_of-self-clause-below g c =
    let old = c.args.self.now in
    subst (λ (n : ℕ). All (λ (q : ℕ). q < n) old.order.items) (sym (length-set old.queue_workers c.args.queue c.turn.new.self)) old.below

pub invariant_of-self-clause-enough : goal.invariant_of-self-clause-enough
invariant_of-self-clause-enough g c =
    let old = c.args.self.now in
    subst (λ (n : ℕ). n ≤ vec_capacity old.parts) (sym (length-set old.queue_workers c.args.queue c.turn.new.self)) old.enough
