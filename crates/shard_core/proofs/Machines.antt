-- What shards stand for, call by call.
use Rattle.std.proofs.Common.{◌≡◌, ◌<◌, ℕ, ◌==◌, Bool, true, false, eq-eqb, ne_eqb, List, [], ◌∷◌, ◌++◌, length, map, Option, Some, None, slice_get, if◌then◌else◌, refl, ap, ap₂, sym, ◌∙◌, subst, arith, inl, inr}
use Rattle.std.proofs.lemmas.List.{length-set}
use Rattle.std.proofs.lemmas.Option.{slice_get_within}
use Rattle.nf_base.specs.declared.packet.Packet.{Packet}
use Rattle.nf_base.specs.declared.share.Share.{Share}
use Rattle.nf_base.specs.Text.{Function}
use Rattle.nf_base.specs.Functions.{function_of}
use Rattle.nf_base.proofs.Mixes.{got_set}
use Rattle.nf_engine.specs.View.{Fixed}
use Rattle.rss_table.specs.Tables.{even_table, queue_of}
use Rattle.shard_laws.specs.Queues.{time_after, last_time}
use Rattle.shard_machine.specs.declared.event.Answer.{Answer}
use Rattle.shard_machine.specs.declared.event.Worked.{Worked}
use Rattle.shard_machine.specs.Machine.{Setup, Machine, Worker, packets_of, lines_of, packets_at, answers_at}
use Rattle.shard_machine.specs.Events.{Works, IsNext, with_worker, collected}
use Rattle.shard_machine.proofs.Sent.{append_nil, append_twice, map_append, same_behind, packets_append, answers_append, packets_of_at, one_at, one_answer_at, no_answer_at}
use Rattle.shard_machine.proofs.Kept.{work_holds, collect_holds}
use Rattle.shard_core.specs.Held as one
use Rattle.shard_core.specs.Held.{Held, WorksOn, StartsWith}
use Rattle.shard_core.specs.Sharded.{Sharded, IsWhole, IsSetupOf, WorkerStands, StandsFor, OneChanged, WorkedAt, WorksAt, answer_of, TakenFrom, Takes, NoneTaken, Collects, StopIn, IsStopOf, SameButRooms}
use Rattle.shard_core.specs.declared.collected.Collected.{Collected}
use Rattle.shard_core.specs.declared.collected.Stop.{Stop}
use Rattle.shard_machine.proofs.Ran.{stop_packet}
use Rattle.shard_core.proofs.Changing.{some_worker}
use Rattle.shard_core.proofs.Standing.{works_on, same_stands}

pub if_true : {A : Type 0} (b : Bool) (x y : A) → b ≡ true → (if b then x else y) ≡ x
if_true true x y e = refl
if_true false x y e = cc

pub if_false : {A : Type 0} (b : Bool) (x y : A) → b ≡ false → (if b then x else y) ≡ y
if_false true x y e = cc
if_false false x y e = refl

-- the setup stays
pub same_setup : (x : Setup) (w : ℕ) (old new : Sharded) (before after : Held) → OneChanged w old new before after → IsSetupOf x old → IsSetupOf x new
same_setup x w old new before after c s = record {
  is = s.is;
  function = s.function ∙ ap function_of (sym c.func);
  workers = s.workers ∙ sym c.count;
  queue = λ p. s.queue p ∙ ap₂ (λ n keys. queue_of (even_table keys.table n) keys p) (sym c.count) (sym c.keys);
}

-- all workers are there as before
pub changed_whole : (w : ℕ) (old new : Sharded) (before after : Held) → OneChanged w old new before after → IsWhole old → IsWhole new
changed_whole w old new before after c whole = ap length c.workers ∙ length-set old.workers w after ∙ whole ∙ sym c.count

-- a worker works
pub works_at : (x : Setup) (m : Machine) (w : ℕ) (came : Worked) (old new : Sharded) → StandsFor x m old → WorkedAt w came old new → WorksAt x m w came new
works_at x m w came old new h n =
    let one_ = h.workers w n.before n.changed.there in
    let go : WorksOn (function_of old.func) came n.before.tables.share (m.worker w) n.after (answers_at x.queue w m.collected) = works_on (function_of old.func) came n.before n.after (m.worker w) (answers_at x.queue w m.collected) one_.stands n.works in
    let works : Works x.function (x.share w) came (m.worker w) go.next = subst (λ (s : Share). Works x.function s came (m.worker w) go.next) one_.share (subst (λ (f : Function). Works f n.before.tables.share came (m.worker w) go.next) (sym h.setup.function) go.works) in
    record {
      next = go.next;
      works = works;
      stands = record {
        setup = same_setup x w old new n.before n.after n.changed h.setup;
        holds = work_holds x w came go.next m h.holds works;
        workers = subst (λ (ws : List Held). (v : ℕ) (held : Held) → slice_get ws v ≡ Some held → WorkerStands x (with_worker w go.next m) v held) (sym n.changed.workers)
            (λ v held at. elim (got_set old.workers w v n.after held at) [
              | inl q ↦
                  let there : (if w == v then go.next else m.worker v) ≡ go.next = if_true (w == v) go.next (m.worker v) (eq-eqb _ _ (sym q.0)) in
                  record {
                    stands = subst (λ (z : Worker). one.StandsFor held z (answers_at x.queue v m.collected)) (sym there)
                        (subst (λ (j : ℕ). one.StandsFor held go.next (answers_at x.queue j m.collected)) (sym q.0) (subst (λ (z : Held). one.StandsFor z go.next (answers_at x.queue w m.collected)) q.1 go.stands));
                    share = ap (λ (z : Held). z.tables.share) (sym q.1) ∙ ap (λ (z : Fixed). z.share) n.changed.fixed ∙ one_.share ∙ ap x.share (sym q.0);
                  }
              | inr q ↦
                  let there : (if w == v then go.next else m.worker v) ≡ m.worker v = if_false (w == v) go.next (m.worker v) (ne_eqb _ _ (λ e. q.0 (sym e))) in
                  let k = h.workers v held q.1 in
                  record { stands = subst (λ (z : Worker). one.StandsFor held z (answers_at x.queue v m.collected)) (sym there) k.stands; share = k.share }
            ]);
        left = h.left;
        sent = h.sent;
        order = ap (λ z. z.items) n.queues ∙ h.order;
        time = n.time ∙ h.time;
        whole = changed_whole w old new n.before n.after n.changed h.whole;
      };
    }

-- the packet that comes next, by its queue
left_first : (queue : Packet → ℕ) (left : List Packet) (q : ℕ) (qs : List ℕ) → q ∷ qs ≡ map queue left → (p : Packet) × ((later : List Packet) × (left ≡ p ∷ later) × (queue p ≡ q) × (qs ≡ map queue later))
left_first queue [] q qs e = cc
left_first queue (p ∷ later) q qs e = (p, (later, refl, cc, cc))

same_first : {A : Type 0} (x y : A) (xs ys : List A) → x ∷ xs ≡ y ∷ ys → x ≡ y
same_first x y xs ys e = cc

-- the time of the last handled packet, after one more answer
last_more : (time : ℕ) (xs : List Answer) (a : Answer) → last_time time (lines_of (xs ++ a ∷ [])) ≡ time_after (last_time time (lines_of xs)) a.packet
last_more time [] a = refl
last_more time (b ∷ xs) a = last_more (time_after time b.packet) xs a

-- an answer is taken
pub takes_on : (x : Setup) (m : Machine) (c : Collected) (old new : Sharded) → StandsFor x m old → TakenFrom c old new → Collects x m (Some c) new
takes_on x m c old new h n =
    let a : Answer = answer_of c in
    let u = c.queue in
    let one_ = h.workers u n.before n.changed.there in
    let next = left_first x.queue h.left u new.queues.items (sym n.queues ∙ h.order) in
    let p = next.0 in
    let later = next.1.0 in
    let left : h.left ≡ p ∷ later = next.1.1 in
    let at : x.queue p ≡ u = next.1.2 in
    let rest : new.queues.items ≡ map x.queue later = next.1.3 in
    let worked : (m.worker u).worked ≡ answers_at x.queue u m.collected ++ a ∷ n.after.answers = one_.stands.worked ∙ ap (λ zs. answers_at x.queue u m.collected ++ zs) n.answers in
    let sent : packets_at x.queue u m.dispatched ≡ packets_of (answers_at x.queue u m.collected) ++ p ∷ packets_at x.queue u later =
    ap (packets_at x.queue u) (h.sent ∙ ap (λ zs. packets_of m.collected ++ zs) left) ∙ packets_append x.queue u (packets_of m.collected) (p ∷ later) ∙ ap₂ (λ ps qs. ps ++ qs) (packets_of_at x.queue u m.collected) (one_at x.queue u p later at) in
    let had : packets_of (answers_at x.queue u m.collected) ++ a.packet ∷ (packets_of n.after.answers ++ (m.worker u).waiting) ≡ packets_of (answers_at x.queue u m.collected) ++ p ∷ packets_at x.queue u later =
    sym (append_twice (packets_of (answers_at x.queue u m.collected)) (a.packet ∷ packets_of n.after.answers) (m.worker u).waiting)
    ∙ ap (λ zs. zs ++ (m.worker u).waiting) (sym (map_append (λ (b : Answer). b.packet) (answers_at x.queue u m.collected) (a ∷ n.after.answers)) ∙ ap packets_of (sym worked)) ∙ (h.holds.worker u).order ∙ sent in
    let is : a.packet ≡ p = same_first a.packet p (packets_of n.after.answers ++ (m.worker u).waiting) (packets_at x.queue u later) (same_behind (packets_of (answers_at x.queue u m.collected)) _ _ had) in
    let home : x.queue a.packet ≡ u = ap x.queue is ∙ at in
    let is_next : IsNext x m a = record {
      later = later;
      dispatched = h.sent ∙ ap (λ zs. packets_of m.collected ++ zs) (left ∙ ap (λ z. z ∷ later) (sym is));
      more = n.after.answers;
      worked = subst (λ (j : ℕ). (m.worker j).worked ≡ answers_at x.queue j m.collected ++ a ∷ n.after.answers) (sym home) worked;
    } in (
      is_next,
      sym home,
      record {
        setup = same_setup x u old new n.before n.after n.changed h.setup;
        holds = collect_holds x a m h.holds is_next;
        workers = subst (λ (ws : List Held). (v : ℕ) (held : Held) → slice_get ws v ≡ Some held → WorkerStands x (collected a m) v held) (sym n.changed.workers)
            (λ v held got. elim (got_set old.workers u v n.after held got) [
              | inl q ↦
                  let there : answers_at x.queue v (m.collected ++ a ∷ []) ≡ answers_at x.queue v m.collected ++ a ∷ [] = answers_append x.queue v m.collected (a ∷ []) ∙ ap (λ zs. answers_at x.queue v m.collected ++ zs) (one_answer_at x.queue v a [] (home ∙ sym q.0)) in
                  let stands : one.StandsFor n.after (m.worker u) (answers_at x.queue u m.collected ++ a ∷ []) = record {
                    worked = worked ∙ sym (append_twice (answers_at x.queue u m.collected) (a ∷ []) n.after.answers);
                    waiting = one_.stands.waiting ∙ sym n.waiting;
                    stopped = one_.stands.stopped ∙ sym n.stopped;
                    state = λ e. one_.stands.state (sym n.stopped ∙ e) ∙ ap (λ t. t.state) (sym n.tables);
                  } in
                  record {
                    stands = subst (λ (zs : List Answer). one.StandsFor held (m.worker v) zs) (sym there)
                        (subst (λ (j : ℕ). one.StandsFor held (m.worker j) (answers_at x.queue j m.collected ++ a ∷ [])) (sym q.0) (subst (λ (z : Held). one.StandsFor z (m.worker u) (answers_at x.queue u m.collected ++ a ∷ [])) q.1 stands));
                    share = ap (λ (z : Held). z.tables.share) (sym q.1) ∙ ap (λ (z : Fixed). z.share) n.changed.fixed ∙ one_.share ∙ ap x.share (sym q.0);
                  }
              | inr q ↦
                  let there : answers_at x.queue v (m.collected ++ a ∷ []) ≡ answers_at x.queue v m.collected = answers_append x.queue v m.collected (a ∷ []) ∙ ap (λ zs. answers_at x.queue v m.collected ++ zs) (no_answer_at x.queue v a [] (λ e. q.0 (sym e ∙ home))) ∙ append_nil (answers_at x.queue v m.collected) in
                  let k = h.workers v held q.1 in
                  record { stands = subst (λ (zs : List Answer). one.StandsFor held (m.worker v) zs) (sym there) k.stands; share = k.share }
            ]);
        left = later;
        sent = h.sent ∙ ap (λ zs. packets_of m.collected ++ zs) (left ∙ ap (λ z. z ∷ later) (sym is)) ∙ sym (append_twice (packets_of m.collected) (a.packet ∷ []) later) ∙ ap (λ zs. zs ++ later) (sym (map_append (λ (b : Answer). b.packet) m.collected (a ∷ [])));
        order = rest;
        time = n.time ∙ ap (λ (t : ℕ). time_after t c.packet) h.time ∙ sym (last_more 0 m.collected a);
        whole = changed_whole u old new n.before n.after n.changed h.whole;
      },
    )

-- nothing is next where nothing is taken
no_left : (x : Setup) (m : Machine) (left : List Packet) (a : Answer) → m.dispatched ≡ packets_of m.collected ++ left → IsNext x m a → (later : List Packet) × (left ≡ a.packet ∷ later)
no_left x m left a sent next = (next.later, same_behind (packets_of m.collected) left (a.packet ∷ next.later) (sym sent ∙ next.dispatched))

head_queue : (queue : Packet → ℕ) (q : ℕ) (qs : List ℕ) (left : List Packet) (p : Packet) (later : List Packet) → q ∷ qs ≡ map queue left → left ≡ p ∷ later → q ≡ queue p
head_queue queue q qs left p later e f = same_first q (queue p) qs (map queue later) (e ∙ ap (map queue) f)

none_next : (x : Setup) (m : Machine) (queues : List ℕ) (old : Sharded) → StandsFor x m old → old.queues.items ≡ queues → NoneTaken queues old.workers → (a : Answer) → IsNext x m a → ⊥
none_next x m [] old h e none a next =
    let w = no_left x m h.left a h.sent next in
    let q : [] ≡ map x.queue (a.packet ∷ w.0) = sym e ∙ h.order ∙ ap (map x.queue) w.1 in
    cc
none_next x m (q ∷ qs) old h e none a next =
    let w = no_left x m h.left a h.sent next in
    let at : q ≡ x.queue a.packet = head_queue x.queue q qs h.left a.packet w.0 (sym e ∙ h.order) w.1 in
    let n = h.setup.workers in
    let whole = h.whole in
    let lt : x.queue a.packet < x.workers = h.setup.is.below a.packet in
    let held = some_worker old.workers (x.queue a.packet) (omega (arith, n, lt, whole)) in
    let k = h.workers (x.queue a.packet) held.0 held.1 in
    let nothing : held.0.answers ≡ [] = none held.0 (ap (slice_get old.workers) at ∙ held.1) in
    let had : answers_at x.queue (x.queue a.packet) m.collected ++ [] ≡ answers_at x.queue (x.queue a.packet) m.collected ++ a ∷ next.more = sym (k.stands.worked ∙ ap (λ zs. answers_at x.queue (x.queue a.packet) m.collected ++ zs) nothing) ∙ next.worked in
    let bad : [] ≡ a ∷ next.more = same_behind (answers_at x.queue (x.queue a.packet) m.collected) [] (a ∷ next.more) had in
    cc

-- two that differ in their room alone stand for the same
pub same_rooms : (x : Setup) (m : Machine) (old new : Sharded) → SameButRooms old new → StandsFor x m old → StandsFor x m new
same_rooms x m old new s h = record {
  setup = record {
    is = h.setup.is;
    function = h.setup.function ∙ ap function_of (sym s.func);
    workers = h.setup.workers ∙ sym s.count;
    queue = λ p. h.setup.queue p ∙ ap₂ (λ n keys. queue_of (even_table keys.table n) keys p) (sym s.count) (sym s.keys);
  };
  holds = h.holds;
  workers = λ w held at.
      let lt : w < length new.workers = slice_get_within new.workers w held at in
      let was = some_worker old.workers w (let c = s.long in omega (arith, lt, c)) in
      let k = h.workers w was.0 was.1 in
      let e = s.each w was.0 held was.1 at in
      record { stands = same_stands was.0 held (m.worker w) (answers_at x.queue w m.collected) e k.stands; share = ap (λ t. t.share) e.tables ∙ k.share };
  left = h.left;
  sent = h.sent;
  order = s.queues ∙ h.order;
  time = s.time ∙ h.time;
  whole = s.long ∙ h.whole ∙ sym s.count;
}

pub collects_on : (x : Setup) (m : Machine) (got : Option Collected) (old new : Sharded) → StandsFor x m old → Takes got old new → Collects x m got new
collects_on x m None old new h n = (none_next x m old.queues.items old h refl n.0, same_rooms x m old new n.1 h)
collects_on x m (Some c) old new h n = takes_on x m c old new h n

-- a stop
starts_with : (p : Packet) (ps : List Packet) (q : Packet) (qs : List Packet) → ps ≡ q ∷ qs → StartsWith p ps → q ≡ p
starts_with p [] q qs e s = absurd s
starts_with p (r ∷ ps) q qs e s = sym (same_first r q ps qs e) ∙ s

is_start : (ps : List Packet) (q : Packet) (qs : List Packet) → ps ≡ q ∷ qs → StartsWith q ps
is_start [] q qs e = cc
is_start (r ∷ ps) q qs e = same_first r q ps qs e

stop_from : (x : Setup) (m : Machine) (old : Sharded) (queues : List ℕ) (stop : Option Stop) → StandsFor x m old → old.queues.items ≡ queues → StopIn queues old.workers stop → IsStopOf x m stop
stop_from x m old [] (Some s) h e n = absurd n
stop_from x m old [] None h e n = λ packet chain at.
    let left : h.left ≡ packet ∷ at.later = same_behind (packets_of m.collected) h.left (packet ∷ at.later) (sym h.sent ∙ at.next) in
    let q : [] ≡ map x.queue (packet ∷ at.later) = sym e ∙ h.order ∙ ap (map x.queue) left in
    cc
stop_from x m old (q ∷ qs) (Some s) h e n =
    let held = n.0 in
    let k = h.workers q held n.1 in
    let i = n.2 in
    let next = left_first x.queue h.left q qs (sym e ∙ h.order) in
    let p = next.0 in
    let at : x.queue p ≡ q = next.1.2 in
    let sent : m.dispatched ≡ packets_of m.collected ++ p ∷ next.1.0 = h.sent ∙ ap (λ zs. packets_of m.collected ++ zs) next.1.1 in
    let worked : (m.worker q).worked ≡ answers_at x.queue q m.collected = k.stands.worked ∙ ap (λ zs. answers_at x.queue q m.collected ++ zs) i.answers ∙ append_nil (answers_at x.queue q m.collected) in
    let waits : (m.worker (x.queue p)).waiting ≡ p ∷ packets_at x.queue (x.queue p) next.1.0 = stop_packet x m h.holds p next.1.0 sent (subst (λ (j : ℕ). (m.worker j).worked ≡ answers_at x.queue j m.collected) (sym at) worked) in
    let is : p ≡ s.packet = starts_with s.packet held.waiting p (packets_at x.queue (x.queue p) next.1.0) (sym k.stands.waiting ∙ ap (λ (j : ℕ). (m.worker j).waiting) (sym at) ∙ waits) i.first in
    let home : x.queue s.packet ≡ q = ap x.queue (sym is) ∙ at in (
      record {
        later = next.1.0;
        next = sent ∙ ap (λ (z : Packet). packets_of m.collected ++ z ∷ next.1.0) is;
        stopped = ap (λ (j : ℕ). (m.worker j).stopped) home ∙ k.stands.stopped ∙ i.stopped;
        at = subst (λ (j : ℕ). (m.worker j).worked ≡ answers_at x.queue j m.collected) (sym home) worked;
      },
      i.queue_is ∙ sym home,
    )
stop_from x m old (q ∷ qs) None h e n = λ packet chain at.
    let left : h.left ≡ packet ∷ at.later = same_behind (packets_of m.collected) h.left (packet ∷ at.later) (sym h.sent ∙ at.next) in
    let home : q ≡ x.queue packet = head_queue x.queue q qs h.left packet at.later (sym e ∙ h.order) left in
    let held = n.0 in
    let k = h.workers q held n.1 in
    let stopped : (m.worker q).stopped ≡ Some chain = ap (λ (j : ℕ). (m.worker j).stopped) home ∙ at.stopped in
    let s = (h.holds.worker q).stop chain stopped in
    let worked : (m.worker q).worked ≡ answers_at x.queue q m.collected = subst (λ (j : ℕ). (m.worker j).worked ≡ answers_at x.queue j m.collected) (sym home) at.at in
    let nothing : held.answers ≡ [] = same_behind (answers_at x.queue q m.collected) held.answers [] (sym k.stands.worked ∙ worked ∙ sym (append_nil (answers_at x.queue q m.collected))) in
    n.2 s.packet chain nothing (sym k.stands.stopped ∙ stopped) (is_start held.waiting s.packet s.later (sym k.stands.waiting ∙ s.waiting))

pub stop_on : (x : Setup) (m : Machine) (old : Sharded) (stop : Option Stop) → StandsFor x m old → StopIn old.queues.items old.workers stop → IsStopOf x m stop
stop_on x m old stop h n = stop_from x m old old.queues.items stop h refl n
