-- What all workers came to is a play.
use Rattle.std.proofs.Common.{◌≡◌, ◌≤◌, ◌<◌, ℕ, List, [], ◌∷◌, ◌++◌, length, map, replicate, Option, Some, None, ◌⊎◌, refl, ap, sym, ◌∙◌, subst, arith, inl, inr}
use Rattle.std.proofs.lemmas.Bool.{cases_lt}
use Rattle.nf_base.specs.declared.packet.Packet.{Packet}
use Rattle.nf_base.specs.Step.{opening}
use Rattle.shard_machine.specs.declared.event.Answer.{Answer}
use Rattle.shard_machine.specs.declared.event.Event.TheVariants.{Dispatch, Collect}
use Rattle.shard_machine.specs.Machine.{Setup, Worker, new_machine, packets_of, packets_at, answers_at}
use Rattle.shard_machine.specs.Moments.{IsSetup}
use Rattle.shard_machine.proofs.Sent.{append_nil, same_behind, packets_append, one_at, packets_of_at}
use Rattle.shard_core.specs.declared.collected.Collected.{Collected}
use Rattle.shard_core.specs.Apart.{works_from}
use Rattle.shard_core.specs.Sharded.{answer_of}
use Rattle.shard_core.proofs.Played.{plays_append}
use Rattle.ring_line.specs.declared.halt.Halt.{Halt}
use Rattle.ring_line.specs.Handled.{WorkedTimes, WorkedThrough, EndsAt, CameTo, IsAt}
use Rattle.ring_line.specs.Plays.{WorkerEnd, AllCame, CameOut, IsPlay, HaltsAreStops, collected_at}
use Rattle.ring_line.proofs.Handling.{handling_is_work}
use Rattle.ring_line.proofs.InOrder.{came_begins, InOrder, in_order, handed_out, each_all, same_at, packets_of_got}
use Rattle.ring_line.proofs.Playing.{Sent, all_sent, AllReached, all_workers, AllCollected, all_got}

-- a worker below the number, or a new one
through : (x : Setup) (packets : List Packet) (got : List Collected) (left : List ℕ) (ends : ℕ → WorkerEnd) → AllCame x packets got left ends → (w : ℕ) → w < x.workers →
    WorkedThrough x.function (x.share w) (opening x.function) (packets_at x.queue w packets) (collected_at w got ++ (ends w).more) (ends w).halt (ends w).state
through x packets got left ends all w lt =
    handling_is_work x.function (x.share w) (opening x.function) (packets_at x.queue w packets) (collected_at w got ++ (ends w).more) (ends w).halt (ends w).state (all.thread_workers w lt)

pub in_queue_order : (x : Setup) (packets : List Packet) (got : List Collected) (left : List ℕ) (ends : ℕ → WorkerEnd) → IsSetup x → AllCame x packets got left ends → InOrder x.queue packets got left
in_queue_order x packets got left ends is all =
    in_order x.queue x.workers packets got left is.below all.order
    (λ w lt. came_begins x.function (x.share w) (opening x.function) x.queue w packets got (ends w).more (ends w).halt (ends w).state (all.thread_workers w lt))

module _ (x : Setup) (packets : List Packet) (got : List Collected) (left : List ℕ) (ends : ℕ → WorkerEnd) (is : IsSetup x) (all : AllCame x packets got left ends) where
  abbrev first : ℕ → Worker
  first w = record { worked = []; waiting = packets_at x.queue w packets; state = opening x.function; stopped = None }

  -- how often the worker of a number worked, and what it is then
  abbrev count_of : (w : ℕ) → (w < x.workers) ⊎ (x.workers ≤ w) → ℕ
  count_of w (inl lt) = (through x packets got left ends all w lt).count
  count_of w (inr ge) = 0

  abbrev worker_of : (w : ℕ) → (w < x.workers) ⊎ (x.workers ≤ w) → Worker
  worker_of w (inl lt) = (through x packets got left ends all w lt).worker
  worker_of w (inr ge) = first w

  times_of : (w : ℕ) (side : (w < x.workers) ⊎ (x.workers ≤ w)) → w < x.workers → WorkedTimes x.function (x.share w) (first w) (count_of w side) (worker_of w side)
  times_of w (inl lt) within = (through x packets got left ends all w lt).times
  times_of w (inr ge) within = absurd (omega (arith, ge, within))

  came_of : (w : ℕ) (side : (w < x.workers) ⊎ (x.workers ≤ w)) → w < x.workers → CameOut (collected_at w got) (ends w) (worker_of w side)
  came_of w (inl lt) within = let r = through x packets got left ends all w lt in record { worked = r.worked; at = r.ends }
  came_of w (inr ge) within = absurd (omega (arith, ge, within))

  abbrev counts : ℕ → ℕ
  counts w = count_of w (cases_lt w x.workers)

  abbrev after : ℕ → Worker
  after w = worker_of w (cases_lt w x.workers)

  sent : Sent x (new_machine x.function) packets
  sent = all_sent x (new_machine x.function) packets

  worked : AllReached x sent.machine counts after 0 x.workers
  worked = all_workers x sent.machine counts first after 0 x.workers (λ w a b. sent.workers w) (λ w a b. times_of w (cases_lt w x.workers) (omega (arith, b))) (omega arith)

  order : InOrder x.queue packets got left
  order = in_queue_order x packets got left ends is all

  worked_is : (w : ℕ) → w < x.workers → CameOut (collected_at w got) (ends w) (worked.machine.worker w)
  worked_is w lt = subst (CameOut (collected_at w got) (ends w)) (sym (worked.there w (omega arith) (omega (arith, lt)))) (came_of w (cases_lt w x.workers) lt)

  collects : AllCollected x worked.machine got got
  collects =
      all_got x got order.later (λ (w : ℕ). (ends w).more) is.below order.queues worked.machine [] got refl (worked.collected ∙ sent.collected)
      (worked.dispatched ∙ sent.dispatched ∙ order.packets_are) (λ w lt. (worked_is w lt).worked)

  pub workers_are_a_play : IsPlay x packets got ends
  workers_are_a_play = record {
    machine = collects.machine;
    counts = counts;
    plays = plays_append x (map (λ (p : Packet). Dispatch p) packets) (works_from counts 0 x.workers ++ replicate (length got) Collect) (new_machine x.function) sent.machine collects.machine [] (map answer_of got) sent.plays
        (plays_append x (works_from counts 0 x.workers) (replicate (length got) Collect) sent.machine worked.machine collects.machine [] (map answer_of got) worked.plays collects.plays);
    dispatched = collects.dispatched ∙ worked.dispatched ∙ sent.dispatched;
    collected = collects.collected;
    queues = each_all x.queue got order.queues;
    workers = λ w lt. subst (λ (v : ℕ → Worker). CameOut (collected_at w got) (ends w) (v w)) (sym collects.workers) (worked_is w lt);
  }

-- the packet at which the first queue's share ended is the one behind all that were collected
stop_is : (x : Setup) (packets : List Packet) (got : List Collected) (queue : ℕ) (left : List ℕ) (halt : Halt) (behind : List Packet) → InOrder x.queue packets got (queue ∷ left) → packets_at x.queue queue packets ≡ packets_of (collected_at queue got) ++ halt.packet ∷ behind →
    (queue ≡ x.queue halt.packet) × ((later : List Packet) × (packets ≡ handed_out got ++ halt.packet ∷ later))
stop_is x packets got queue left halt behind order at = of_later order.later order.packets_are order.left_are
  where
    of_later : (later : List Packet) → packets ≡ handed_out got ++ later → queue ∷ left ≡ map x.queue later → (queue ≡ x.queue halt.packet) × ((later : List Packet) × (packets ≡ handed_out got ++ halt.packet ∷ later))
    of_later [] are order' = cc
    of_later (p ∷ later) are order' =
        let home : queue ≡ x.queue p = cc in
        let front : packets_at x.queue queue (handed_out got) ≡ packets_of (collected_at queue got) = ap (packets_at x.queue queue) (sym (packets_of_got got)) ∙ packets_of_at x.queue queue (map answer_of got) ∙ ap packets_of (same_at x.queue queue got order.queues) in
        let split : packets_at x.queue queue packets ≡ packets_of (collected_at queue got) ++ p ∷ packets_at x.queue queue later =
        ap (packets_at x.queue queue) are ∙ packets_append x.queue queue (handed_out got) (p ∷ later) ∙ ap (λ (ps : List Packet). ps ++ packets_at x.queue queue (p ∷ later)) front
        ∙ ap (λ (ps : List Packet). packets_of (collected_at queue got) ++ ps) (one_at x.queue queue p later (sym home)) in
        let heads : p ∷ packets_at x.queue queue later ≡ halt.packet ∷ behind = same_behind (packets_of (collected_at queue got)) (p ∷ packets_at x.queue queue later) (halt.packet ∷ behind) (sym split ∙ at) in
        let is : p ≡ halt.packet = cc in
        (home ∙ ap x.queue is, (later, are ∙ ap (λ (z : Packet). handed_out got ++ z ∷ later) is))

halt_front : (x : Setup) (w : ℕ) (packets : List Packet) (answers : List Answer) (end : WorkerEnd) (halt : Halt) → CameTo x.function (x.share w) (opening x.function) packets (answers ++ end.more) end.halt end.state → end.halt ≡ Some halt → end.more ≡ [] →
    (behind : List Packet) × (packets ≡ packets_of answers ++ halt.packet ∷ behind)
halt_front x w packets answers end halt came at none =
    let e : EndsAt x.function (x.share w) (opening x.function) packets (answers ++ end.more) halt = subst (λ (o : Option Halt). CameTo x.function (x.share w) (opening x.function) packets (answers ++ end.more) o end.state) at came in
    (e.later, e.packets_are ∙ ap (λ (as_ : List Answer). packets_of as_ ++ halt.packet ∷ e.later) (ap (λ (as_ : List Answer). answers ++ as_) none ∙ append_nil answers))

pub halts_are_stops : HaltsAreStops
halts_are_stops x packets got queue left ends halt play is all at none =
    let order = in_queue_order x packets got (queue ∷ left) ends is all in
    let below : queue < x.workers = first_below order.later order.left_are in
    let front = halt_front x queue (packets_at x.queue queue packets) (collected_at queue got) (ends queue) halt (all.thread_workers queue below) at none in
    let stop = stop_is x packets got queue left halt front.0 order front.1 in
    let home = stop.0 in
    let out = play.workers queue below in
    let stopped : IsAt (Some halt) (ends queue).state (play.machine.worker queue) = subst (λ (o : Option Halt). IsAt o (ends queue).state (play.machine.worker queue)) at out.at in
    let each : answers_at x.queue queue play.machine.collected ≡ collected_at queue got = ap (answers_at x.queue queue) play.collected ∙ same_at x.queue queue got order.queues in (
      home,
      record {
        later = stop.1.0;
        next = play.dispatched ∙ stop.1.1 ∙ ap (λ (ps : List Packet). ps ++ halt.packet ∷ stop.1.0) (sym (packets_of_got got) ∙ ap packets_of (sym play.collected));
        stopped = subst (λ (w : ℕ). (play.machine.worker w).stopped ≡ Some halt.chain) home stopped.0;
        at = subst (λ (w : ℕ). (play.machine.worker w).worked ≡ answers_at x.queue w play.machine.collected) home
            (out.worked ∙ ap (λ (as_ : List Answer). collected_at queue got ++ as_) none ∙ append_nil (collected_at queue got) ∙ sym each);
      },
    )
  where
    first_below : (later : List Packet) → queue ∷ left ≡ map x.queue later → queue < x.workers
    first_below [] e = cc
    first_below (p ∷ later) e = let same : queue ≡ x.queue p = cc in subst (λ (q : ℕ). q < x.workers) (sym same) (is.below p)
