use Rattle.std.proofs.Common.{◌≡◌, ℕ, ◌∷◌, ◌++◌, [], map, Some, slice_get, slice_set, length, refl, ap, ◌∙◌, subst, arith, ◌<◌, ◌≤◌, All, sym}
use Rattle.std.proofs.lemmas.Option.{slice_get_read, slice_get_within}
use Rattle.std.specs.Vec.{vec_capacity}
use Rattle.std.proofs.lemmas.List.Elements.{All-rest}
use Rattle.std.proofs.lemmas.List.{length-set}
use Rattle.shard_core.specs.declared.collected.Collected.{Collected}
use Rattle.shard_core.specs.Sharded.{answer_of}
use Rattle.shard_machine.specs.Machine.{packets_at}
use Rattle.shard_laws.specs.Queues.{time_after}
use Rattle.short_answers.specs.Answers.{done_told}
use Rattle.ring_line.specs.QueueWorkers.{QueueWorkerHasAnswer, QueueWorkerFirstAnswer, QueueWorkerStands}
use Rattle.ring_line.specs.Plays.{collected_at}
use Rattle.ring_line.specs.Lines.{LineFirstAnswer}
use Rattle.ring_line.proofs.Lining.{got_queue_workers, got_order, got_time, popped}
use Rattle.ring_line.proofs.Lying.{one_first, one_queue_worker, one_answer}
use Rattle.ring_line.proofs.Flights.{flights_set}
use Rattle.ring_line.proofs.line.Line.pass.Goals as goal

pub item_mut-requires : goal.item_mut-requires
item_mut-requires g c = let is = c.answer-answer.ensures in slice_get_within c.args.self.now.queue_workers c.answer-answer.result.queue is.queue_worker is.there

pub pass-requires : goal.pass-requires
pass-requires g c =
    let old = c.args.self.now in
    let q = c.answer-answer.result.queue in
    let queue_worker = c.item_mut.result.now in
    let has = c.requires in
    let is = c.answer-answer.ensures in
    let at : slice_get old.queue_workers q ≡ Some queue_worker = slice_get_read old.queue_workers (length old.queue_workers) q queue_worker refl (slice_get_within old.queue_workers q is.queue_worker is.there) c.item_mut.ensures.value in
    subst (λ p. QueueWorkerHasAnswer p) (one_queue_worker old.queue_workers has.queue q has.queue_worker queue_worker (one_first has.queue q old.order.items has.first is.first) has.there at) has.has

pub returns-clause-stands : goal.returns-clause-stands
returns-clause-stands g c = λ x packets other got st other_is.
    let old = c.args.self.now in
    let r = c.answer-answer.result in
    let q = r.queue in
    let queue_worker = c.item_mut.result.now in
    let one : Collected = record { packet = r.packet.now; queue = q; done = done_told r.told } in
    let is : LineFirstAnswer old one = c.answer-answer.ensures in
    let at : slice_get old.queue_workers q ≡ Some queue_worker = slice_get_read old.queue_workers (length old.queue_workers) q queue_worker refl (slice_get_within old.queue_workers q is.queue_worker is.there) c.item_mut.ensures.value in
    let lies : QueueWorkerFirstAnswer queue_worker (answer_of one) = subst (λ p. QueueWorkerFirstAnswer p (answer_of one)) (one_queue_worker old.queue_workers q q is.queue_worker queue_worker refl is.there at) is.answer in
    let after = c.pass.new.self in
    let rest = c.pop_front.new.self.items in
    let same : one ≡ other = one_answer old one other is other_is in
    let queue : q ≡ other.queue = ap (λ (d : Collected). d.queue) same in
    let here = c.pass.ensures.stands x.function (x.share q) (packets_at x.queue q packets) (collected_at q got) (answer_of one) (st.queue_workers q queue_worker at) lies in
    let there = subst (λ (d : Collected). QueueWorkerStands after x.function (x.share d.queue) (packets_at x.queue d.queue packets) (collected_at d.queue got ++ answer_of d ∷ [])) same here in
    record {
      count = length-set old.queue_workers q after ∙ st.count;
      order = got_order (map x.queue packets) got old.order.items rest other (popped other.queue old.order.items rest other_is.first c.pop_front.ensures.rest) st.order;
      time = c.time_after-time.ensures ∙ ap (λ (d : Collected). time_after old.time d.packet) same ∙ got_time old.time got other st.time;
      queue_workers = λ w p e. got_queue_workers x packets got old.queue_workers other after st.queue_workers there w p (subst (λ (n : ℕ). slice_get (slice_set old.queue_workers n after) w ≡ Some p) queue e);
    }

pub invariant_of-self-clause-flights : goal.invariant_of-self-clause-flights
invariant_of-self-clause-flights g c =
    let old = c.args.self.now in
    let q = c.answer-answer.result.queue in
    let queue_worker = c.item_mut.result.now in
    let is = c.answer-answer.ensures in
    let at : slice_get old.queue_workers q ≡ Some queue_worker = slice_get_read old.queue_workers (length old.queue_workers) q queue_worker refl (slice_get_within old.queue_workers q is.queue_worker is.there) c.item_mut.ensures.value in
    let set = flights_set old.queue_workers q queue_worker c.pass.new.self at in
    let long = ap length (popped q old.order.items c.pop_front.new.self.items is.first c.pop_front.ensures.rest) in
    omega (arith, set, c.pass.ensures.in_flight, long, old.flights)

pub invariant_of-self-clause-below : goal.invariant_of-self-clause-below
invariant_of-self-clause-below g c =
    let old = c.args.self.now in
    let q = c.answer-answer.result.queue in
    let rest = c.pop_front.new.self.items in
    subst (λ (n : ℕ). All (λ (w : ℕ). w < n) rest) (sym (length-set old.queue_workers q c.pass.new.self))
    (All-rest (λ (w : ℕ). w < length old.queue_workers) q rest old.order.items (popped q old.order.items rest c.answer-answer.ensures.first c.pop_front.ensures.rest) old.below)

pub invariant_of-self-clause-enough : goal.invariant_of-self-clause-enough
invariant_of-self-clause-enough g c =
    let old = c.args.self.now in
    subst (λ (n : ℕ). n ≤ vec_capacity old.parts) (sym (length-set old.queue_workers c.answer-answer.result.queue c.pass.new.self)) old.enough
