-- Dispatches, works and collections, one after another.
use Rattle.std.proofs.Common.{◌≡◌, ◌≤◌, ◌<◌, ◌+◌, ℕ, zero, suc, ◌==◌, eq-eqb, ne_eqb, List, [], ◌∷◌, ◌++◌, length, map, replicate, refl, ap, sym, ◌∙◌, subst, arith, inl, inr}
use Rattle.std.proofs.lemmas.Bool.{cases_eq}
use Rattle.nf_base.specs.declared.packet.Packet.{Packet}
use Rattle.shard_machine.specs.declared.event.Answer.{Answer}
use Rattle.shard_machine.specs.declared.event.Event.{Event}
use Rattle.shard_machine.specs.declared.event.Event.TheVariants.{Dispatch, Work, Collect}
use Rattle.shard_machine.specs.Machine.{Setup, Worker, Machine, packets_of, packets_at, answers_at}
use Rattle.shard_machine.specs.Events as event
use Rattle.shard_machine.specs.Events.{Plays, Works, IsNext, given, dispatched, with_worker, collected}
use Rattle.shard_machine.proofs.Sent.{append_nil, append_twice, map_append, one_at, none_at}
use Rattle.shard_machine.proofs.Kept.{if_true, if_false}
use Rattle.shard_core.specs.declared.collected.Collected.{Collected}
use Rattle.shard_core.specs.Apart.{works_from}
use Rattle.shard_core.specs.Sharded.{answer_of}
use Rattle.shard_core.proofs.Played.{plays_append}
use Rattle.ring_line.specs.Handled as handled
use Rattle.ring_line.specs.Handled.{WorkedTimes}
use Rattle.ring_line.specs.Plays.{collected_at}
use Rattle.ring_line.proofs.InOrder.{handed_out, EachAt, each_front, each_next, one_here, same_at, packets_of_got, collected_append}

-- a worker for which these packets wait too
abbrev pub waits_more : Worker → List Packet → Worker
waits_more worker packets = record worker { waiting = worker.waiting ++ packets }

pub record Sent (x : Setup) (m : Machine) (packets : List Packet) : Type 0 where
  pub machine : Machine
  pub plays : Plays x (map (λ (p : Packet). Dispatch p) packets) m machine []
  pub dispatched : machine.dispatched ≡ m.dispatched ++ packets
  pub collected : machine.collected ≡ m.collected
  pub workers : (w : ℕ) → machine.worker w ≡ waits_more (m.worker w) (packets_at x.queue w packets)

given_here : (x : Setup) (m : Machine) (p : Packet) (packets : List Packet) (w : ℕ) → x.queue p ≡ w → waits_more ((dispatched x p m).worker w) (packets_at x.queue w packets) ≡ waits_more (m.worker w) (packets_at x.queue w (p ∷ packets))
given_here x m p packets w here =
    let is : (dispatched x p m).worker w ≡ given p (m.worker w) = if_true (x.queue p == w) (given p (m.worker (x.queue p))) (m.worker w) (eq-eqb _ _ here) ∙ ap (λ (v : ℕ). given p (m.worker v)) here in
    ap (λ (k : Worker). waits_more k (packets_at x.queue w packets)) is
    ∙ ap (λ (ps : List Packet). record (m.worker w) { waiting = ps }) (append_twice (m.worker w).waiting (p ∷ []) (packets_at x.queue w packets) ∙ ap (λ (ps : List Packet). (m.worker w).waiting ++ ps) (sym (one_at x.queue w p packets here)))

given_there : (x : Setup) (m : Machine) (p : Packet) (packets : List Packet) (w : ℕ) → (x.queue p ≡ w → ⊥) → waits_more ((dispatched x p m).worker w) (packets_at x.queue w packets) ≡ waits_more (m.worker w) (packets_at x.queue w (p ∷ packets))
given_there x m p packets w there =
    ap (λ (k : Worker). waits_more k (packets_at x.queue w packets)) (if_false (x.queue p == w) (given p (m.worker (x.queue p))) (m.worker w) (ne_eqb _ _ there))
    ∙ ap (waits_more (m.worker w)) (sym (none_at x.queue w p packets there))

pub all_sent : (x : Setup) (m : Machine) (packets : List Packet) → Sent x m packets
all_sent x m [] = record {
  machine = m;
  plays = event.ends m;
  dispatched = sym (append_nil m.dispatched);
  collected = refl;
  workers = λ w. ap (λ (ps : List Packet). record (m.worker w) { waiting = ps }) (sym (append_nil (m.worker w).waiting));
}
all_sent x m (p ∷ packets) =
    let r = all_sent x (dispatched x p m) packets in
    record {
      machine = r.machine;
      plays = event.dispatches p (map (λ (q : Packet). Dispatch q) packets) m r.machine [] r.plays;
      dispatched = r.dispatched ∙ append_twice m.dispatched (p ∷ []) packets;
      collected = r.collected;
      workers = λ w. r.workers w ∙ elim (cases_eq (x.queue p) w) [
        | inl here ↦ given_here x m p packets w here
        | inr there ↦ given_there x m p packets w there
      ];
    }

one_more : (n : ℕ) (e : Event) → replicate n e ++ e ∷ [] ≡ replicate (suc n) e
one_more zero e = refl
one_more (suc n) e = ap (λ (zs : List Event). e ∷ zs) (one_more n e)

-- one worker's works
record Reached (x : Setup) (m : Machine) (events : List Event) (w : ℕ) (after : Worker) : Type 0 where
  machine : Machine
  plays : Plays x events m machine []
  here : machine.worker w ≡ after
  others : (v : ℕ) → (w ≡ v → ⊥) → machine.worker v ≡ m.worker v
  dispatched : machine.dispatched ≡ m.dispatched
  collected : machine.collected ≡ m.collected

one_worker : (x : Setup) (m : Machine) (w : ℕ) (first : Worker) (n : ℕ) (after : Worker) → WorkedTimes x.function (x.share w) first n after → m.worker w ≡ first → w < x.workers → Reached x m (replicate n (Work w)) w after
one_worker x m w first n after handled.begins is lt = record { machine = m; plays = event.ends m; here = is; others = λ v ne. refl; dispatched = refl; collected = refl }
one_worker x m w first n after (handled.goes_on k came before after_ times once) is lt =
    let r = one_worker x m w first k before times is lt in
    let next = with_worker w after r.machine in
    let works : Works x.function (x.share w) came (r.machine.worker w) after = subst (λ (b : Worker). Works x.function (x.share w) came b after) (sym r.here) once in
    let last : Plays x (Work w ∷ []) r.machine next [] = event.works w came after [] r.machine next [] lt works (event.ends next) in
    record {
      machine = next;
      plays = subst (λ (es : List Event). Plays x es m next []) (one_more k (Work w)) (plays_append x (replicate k (Work w)) (Work w ∷ []) m r.machine next [] [] r.plays last);
      here = if_true (w == w) after (r.machine.worker w) (eq-eqb _ _ refl);
      others = λ v ne. if_false (w == v) after (r.machine.worker v) (ne_eqb _ _ ne) ∙ r.others v ne;
      dispatched = r.dispatched;
      collected = r.collected;
    }

-- the works of all, from one of them on
pub record AllReached (x : Setup) (m : Machine) (counts : ℕ → ℕ) (after : ℕ → Worker) (w n : ℕ) : Type 0 where
  pub machine : Machine
  pub plays : Plays x (works_from counts w n) m machine []
  pub there : (v : ℕ) → w ≤ v → v < w + n → machine.worker v ≡ after v
  pub others : (v : ℕ) → v < w → machine.worker v ≡ m.worker v
  pub dispatched : machine.dispatched ≡ m.dispatched
  pub collected : machine.collected ≡ m.collected

pub all_workers : (x : Setup) (m : Machine) (counts : ℕ → ℕ) (first after : ℕ → Worker) (w n : ℕ) → ((v : ℕ) → w ≤ v → v < w + n → m.worker v ≡ first v) →
    ((v : ℕ) → w ≤ v → v < w + n → WorkedTimes x.function (x.share v) (first v) (counts v) (after v)) → w + n ≤ x.workers → AllReached x m counts after w n
all_workers x m counts first after w zero are times le = record { machine = m; plays = event.ends m; there = λ v a b. absurd (omega (arith, a, b)); others = λ v lt. refl; dispatched = refl; collected = refl }
all_workers x m counts first after w (suc n) are times le =
    let r = one_worker x m w (first w) (counts w) (after w) (times w (omega arith) (omega arith)) (are w (omega arith) (omega arith)) (omega (arith, le)) in
    let q = all_workers x r.machine counts first after (suc w) n (λ v a b. r.others v (λ e. omega (arith, a, e)) ∙ are v (omega (arith, a)) (omega (arith, b))) (λ v a b. times v (omega (arith, a)) (omega (arith, b))) (omega (arith, le)) in
    record {
      machine = q.machine;
      plays = plays_append x (replicate (counts w) (Work w)) (works_from counts (suc w) n) m r.machine q.machine [] [] r.plays q.plays;
      there = λ v a b. elim (cases_eq w v) [
        | inl same ↦ subst (λ (u : ℕ). q.machine.worker u ≡ after u) same (q.others w (omega arith) ∙ r.here)
        | inr other ↦ q.there v (above w v a other) (omega (arith, b))
      ];
      others = λ v lt. q.others v (omega (arith, lt)) ∙ r.others v (λ e. omega (arith, lt, e));
      dispatched = q.dispatched ∙ r.dispatched;
      collected = q.collected ∙ r.collected;
    }
  where
    above : (w v : ℕ) → w ≤ v → (w ≡ v → ⊥) → suc w ≤ v
    above w v le ne = omega (arith, le, ne)

-- all that was collected is collected, one after another
pub record AllCollected (x : Setup) (m : Machine) (got all : List Collected) : Type 0 where
  pub machine : Machine
  pub plays : Plays x (replicate (length got) Collect) m machine (map answer_of got)
  pub dispatched : machine.dispatched ≡ m.dispatched
  pub workers : machine.worker ≡ m.worker
  pub collected : machine.collected ≡ map answer_of all

module _ (x : Setup) (all : List Collected) (later : List Packet) (more : ℕ → List Answer) (below : (p : Packet) → x.queue p < x.workers) (each : EachAt x.queue all) where
  next_is : (m : Machine) (done : List Collected) (c : Collected) (got : List Collected) → all ≡ done ++ c ∷ got → m.collected ≡ map answer_of done → m.dispatched ≡ handed_out all ++ later →
      ((w : ℕ) → w < x.workers → (m.worker w).worked ≡ collected_at w all ++ more w) → IsNext x m (answer_of c)
  next_is m done c got e had sent worked =
      let q = x.queue c.packet in
      let mine : EachAt x.queue (done ++ c ∷ got) = subst (EachAt x.queue) e each in
      let same : c.queue ≡ q = each_next x.queue done c got mine in
      let before : answers_at x.queue q m.collected ≡ collected_at q done = ap (answers_at x.queue q) had ∙ same_at x.queue q done (each_front x.queue done (c ∷ got) mine) in
      let split : collected_at q all ≡ collected_at q done ++ answer_of c ∷ collected_at q got = ap (collected_at q) e ∙ collected_append q done (c ∷ got) ∙ ap (λ (as_ : List Answer). collected_at q done ++ as_) (one_here q c got same) in
      record {
        later = handed_out got ++ later;
        dispatched = sent ∙ ap (λ (cs : List Collected). handed_out cs ++ later) e ∙ ap (λ (ps : List Packet). ps ++ later) (map_append (λ (d : Collected). d.packet) done (c ∷ got))
            ∙ append_twice (handed_out done) (c.packet ∷ handed_out got) later
            ∙ ap (λ (ps : List Packet). ps ++ c.packet ∷ (handed_out got ++ later)) (sym (packets_of_got done) ∙ ap packets_of (sym had));
        more = collected_at q got ++ more q;
        worked = worked q (below c.packet) ∙ ap (λ (as_ : List Answer). as_ ++ more q) split ∙ append_twice (collected_at q done) (answer_of c ∷ collected_at q got) (more q)
            ∙ ap (λ (as_ : List Answer). as_ ++ answer_of c ∷ (collected_at q got ++ more q)) (sym before);
      }

  pub all_got : (m : Machine) (done got : List Collected) → all ≡ done ++ got → m.collected ≡ map answer_of done → m.dispatched ≡ handed_out all ++ later →
      ((w : ℕ) → w < x.workers → (m.worker w).worked ≡ collected_at w all ++ more w) → AllCollected x m got all
  all_got m done [] e had sent worked = record { machine = m; plays = event.ends m; dispatched = refl; workers = refl; collected = had ∙ ap (map answer_of) (sym (append_nil done) ∙ sym e) }
  all_got m done (c ∷ got) e had sent worked =
      let next = next_is m done c got e had sent worked in
      let m' = collected (answer_of c) m in
      let r = all_got m' (done ++ c ∷ []) got (e ∙ sym (append_twice done (c ∷ []) got)) (ap (λ (as_ : List Answer). as_ ++ answer_of c ∷ []) had ∙ sym (map_append answer_of done (c ∷ []))) sent worked in
      record {
        machine = r.machine;
        plays = event.collects (answer_of c) (replicate (length got) Collect) m r.machine (map answer_of got) next r.plays;
        dispatched = r.dispatched;
        workers = r.workers;
        collected = r.collected;
      }
