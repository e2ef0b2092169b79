-- A packet given to one worker of shards.
use Rattle.std.proofs.Common.{◌≡◌, ◌<◌, ◌≤◌, ◌+◌, ℕ, zero, suc, ◌==◌, eq-eqb, ne_eqb, List, [], ◌∷◌, ◌++◌, length, All, Some, Result, Ok, Err, slice_get, slice_set, if◌then◌else◌, refl, ap, ap₂, sym, ◌∙◌, subst, arith, inl, inr}
use Rattle.std.specs.Result.{IfOk, OnOk, OnErr}
use Rattle.std.proofs.lemmas.List.Elements.{All-append}
use Rattle.nf_base.specs.declared.func.Func.{Func}
use Rattle.nf_base.specs.declared.keys.Keys.{Keys}
use Rattle.nf_base.specs.declared.packet.Packet.{Packet}
use Rattle.nf_base.specs.Doors.{IsServed}
use Rattle.nf_base.specs.Functions.{function_of}
use Rattle.nf_base.proofs.Mixes.{got_set}
use Rattle.nf_engine.specs.View.{Fixed, fixed_of}
use Rattle.rss_table.specs.Tables.{even_table, queue_of, AllBelow}
use Rattle.rss_table.proofs.Entries.{even_below}
use Rattle.shard_machine.specs.Machine.{Setup, Machine, Worker, packets_of, answers_at}
use Rattle.shard_machine.specs.Events.{given, dispatched}
use Rattle.shard_machine.proofs.Sent.{append_twice, map_append}
use Rattle.shard_machine.proofs.Kept.{dispatch_holds}
use Rattle.shard_core.specs.Fifos.{Pending}
use Rattle.shard_core.specs.Held as one
use Rattle.shard_core.specs.Held.{Held, IsNew, SameButRoom, GivenOne}
use Rattle.shard_core.specs.Sharded.{Sharded, sharded_of, queue_in, IsSharded, WorkerStands, StandsFor, GivenTo, SameButRooms, HasRoom}
use Rattle.shard_core.proofs.Changing.{each_changed, worker_of, changed_sharded}
use Rattle.shard_core.proofs.Taking.{same_but_rooms}
use Rattle.shard_core.proofs.Machines.{if_true, if_false, same_setup, changed_whole}

-- by what a call came to
pub on_both : {T E : Type 0} (r : Result T E) (A B C : Type 0) → OnOk r A → OnErr r B → (A → C) → (B → C) → C
on_both (Ok t) A B C a b f g = f a
on_both (Err e) A B C a b f g = g b

pub on_ok : {T E : Type 0} (r : Result T E) (A B C : Type 0) → OnOk r A → OnOk r B → (A → B → C) → OnOk r C
on_ok (Ok t) A B C a b f = f a b
on_ok (Err e) A B C a b f = tt

pub on_err : {T E : Type 0} (r : Result T E) (A B C : Type 0) → OnErr r A → OnErr r B → (A → B → C) → OnErr r C
on_err (Ok t) A B C a b f = tt
on_err (Err e) A B C a b f = f a b

one_item : {A : Type 0} (P : A → Type 0) (x : A) → P x → All P (x ∷ [])
one_item P x is zero d l = is
one_item P x is (suc k) d l = absurd (omega (arith, l))

-- what waits is as before, with one packet more
waits_more : (P : Packet → Type 0) (p : Packet) (before after : Held) → GivenOne p before after → All P before.waiting → P p → All P after.waiting
waits_more P p before after n all is = subst (All P) (sym n.waiting) (All-append P before.waiting (p ∷ []) all (one_item P p is))

more_queues : (func : Func) (keys : Keys) (count : ℕ) (ws : List Held) (queues table : List ℕ) (q : ℕ) → IsSharded func keys count ws queues table → q < count → IsSharded func keys count ws (queues ++ q ∷ []) table
more_queues func keys count ws queues table q is lt = record {
  table_is = is.table_is;
  some = is.some;
  most = is.most;
  keys_fit = is.keys_fit;
  each = is.each;
  below = All-append (λ (p : ℕ). p < count) queues (q ∷ []) is.below (one_item (λ (p : ℕ). p < count) q lt);
}

pub given_sharded : (func : Func) (keys : Keys) (count : ℕ) (ws : List Held) (queues rest table : List ℕ) (q : ℕ) (p : Packet) (before after : Held) → IsSharded func keys count ws queues table → slice_get ws q ≡ Some before → q < count → p.id.port < length func.handlers → IsServed (function_of func) p → GivenOne p before after → rest ≡ queues ++ q ∷ [] →
    IsSharded func keys count (slice_set ws q after) rest table
given_sharded func keys count ws queues rest table q p before after is at lt port served n e =
    let w = is.each q before at in
    subst (λ (qs : List ℕ). IsSharded func keys count (slice_set ws q after) qs table) (sym e)
    (changed_sharded func keys count ws (queues ++ q ∷ []) table q after (more_queues func keys count ws queues table q is lt)
    (worker_of func count q before after w (ap fixed_of n.tables)
    (waits_more (λ (r : Packet). r.id.port < length func.handlers) p before after n w.ports_are port)
    (waits_more (IsServed (function_of func)) p before after n w.served_are served)))

pub same_sharded : (func : Func) (keys : Keys) (count : ℕ) (ws : List Held) (queues rest table : List ℕ) (q : ℕ) (before after : Held) → IsSharded func keys count ws queues table → slice_get ws q ≡ Some before → SameButRoom before after → rest ≡ queues → IsSharded func keys count (slice_set ws q after) rest table
same_sharded func keys count ws queues rest table q before after is at n e =
    let w = is.each q before at in
    subst (λ (qs : List ℕ). IsSharded func keys count (slice_set ws q after) qs table) (sym e)
    (changed_sharded func keys count ws queues table q after is
    (worker_of func count q before after w (ap fixed_of n.tables)
    (subst (All (λ (r : Packet). r.id.port < length func.handlers)) (sym n.waiting) w.ports_are)
    (subst (All (IsServed (function_of func))) (sym n.waiting) w.served_are)))

-- a packet is dispatched
pub dispatches_on : (x : Setup) (m : Machine) (p : Packet) (old new : Sharded) → StandsFor x m old → GivenTo p old new → StandsFor x (dispatched x p m) new
dispatches_on x m p old new h n =
    let q = queue_in old p in
    let home : x.queue p ≡ q = h.setup.queue p in
    let one_ = h.workers q n.before n.changed.there in
    record {
      setup = same_setup x q old new n.before n.after n.changed h.setup;
      holds = dispatch_holds x p m h.holds;
      workers = subst (λ (ws : List Held). (v : ℕ) (held : Held) → slice_get ws v ≡ Some held → WorkerStands x (dispatched x p m) v held) (sym n.changed.workers)
          (λ v held at. elim (got_set old.workers q v n.after held at) [
            | inl e ↦
                let there : (if x.queue p == v then given p (m.worker (x.queue p)) else m.worker v) ≡ given p (m.worker q) = if_true (x.queue p == v) (given p (m.worker (x.queue p))) (m.worker v) (eq-eqb _ _ (home ∙ sym e.0)) ∙ ap (λ (j : ℕ). given p (m.worker j)) home in
                let stands : one.StandsFor n.after (given p (m.worker q)) (answers_at x.queue q m.collected) = record {
                  worked = one_.stands.worked ∙ ap (λ zs. answers_at x.queue q m.collected ++ zs) (sym n.one_more.answers);
                  waiting = ap (λ zs. zs ++ p ∷ []) one_.stands.waiting ∙ sym n.one_more.waiting;
                  stopped = one_.stands.stopped ∙ sym n.one_more.stopped;
                  state = λ none. one_.stands.state (sym n.one_more.stopped ∙ none) ∙ ap (λ t. t.state) (sym n.one_more.tables);
                } in
                record {
                  stands = subst (λ (z : Worker). one.StandsFor held z (answers_at x.queue v m.collected)) (sym there)
                      (subst (λ (j : ℕ). one.StandsFor held (given p (m.worker q)) (answers_at x.queue j m.collected)) (sym e.0) (subst (λ (z : Held). one.StandsFor z (given p (m.worker q)) (answers_at x.queue q m.collected)) e.1 stands));
                  share = ap (λ (z : Held). z.tables.share) (sym e.1) ∙ ap (λ (z : Fixed). z.share) n.changed.fixed ∙ one_.share ∙ ap x.share (sym e.0);
                }
            | inr e ↦
                let there : (if x.queue p == v then given p (m.worker (x.queue p)) else m.worker v) ≡ m.worker v = if_false (x.queue p == v) (given p (m.worker (x.queue p))) (m.worker v) (ne_eqb _ _ (λ y. e.0 (sym y ∙ home))) in
                let k = h.workers v held e.1 in
                record { stands = subst (λ (z : Worker). one.StandsFor held z (answers_at x.queue v m.collected)) (sym there) k.stands; share = k.share }
          ]);
      left = h.left ++ p ∷ [];
      sent = ap (λ zs. zs ++ p ∷ []) h.sent ∙ append_twice (packets_of m.collected) h.left (p ∷ []);
      order = n.queues ∙ ap₂ (λ xs y. xs ++ y ∷ []) h.order (sym home) ∙ sym (map_append x.queue h.left (p ∷ []));
      time = n.time ∙ h.time;
      whole = changed_whole q old new n.before n.after n.changed h.whole;
    }

pub if_ok : {T E : Type 0} (r : Result T E) (P Q : T → Type 0) → IfOk r P → ((t : T) → P t → Q t) → IfOk r Q
if_ok (Ok t) P Q a f = f t a
if_ok (Err e) P Q a f = tt

pub queue_below : (func : Func) (keys : Keys) (count : ℕ) (ws : List Held) (queues table : List ℕ) (q : ℕ) → IsSharded func keys count ws queues table → ((n : ℕ) → AllBelow n table → q < n) → q < count
queue_below func keys count ws queues table q is below = below count (subst (AllBelow count) (sym is.table_is) (even_below keys.table count is.some))

pub given_to : (func : Func) (keys : Keys) (count : ℕ) (ws : List Held) (queues more : Pending ℕ) (time q : ℕ) (p : Packet) (before after : Held) → slice_get ws q ≡ Some before → q ≡ queue_of (even_table keys.table count) keys p → GivenOne p before after → more.items ≡ queues.items ++ q ∷ [] →
    GivenTo p (sharded_of func keys count ws queues time) (sharded_of func keys count (slice_set ws q after) more time)
given_to func keys count ws queues more time q p before after at e n f = record {
  before = before;
  after = after;
  changed = record { there = subst (λ (j : ℕ). slice_get ws j ≡ Some before) e at; workers = ap (λ (j : ℕ). slice_set ws j after) e; func = refl; keys = refl; count = refl; fixed = ap fixed_of n.tables };
  one_more = n;
  queues = f ∙ ap (λ (j : ℕ). queues.items ++ j ∷ []) e;
  time = refl;
}

pub rooms_but : (func : Func) (keys : Keys) (count : ℕ) (ws : List Held) (queues more : Pending ℕ) (time q : ℕ) (before after : Held) → slice_get ws q ≡ Some before → SameButRoom before after → more.items ≡ queues.items →
    SameButRooms (sharded_of func keys count ws queues time) (sharded_of func keys count (slice_set ws q after) more time)
rooms_but func keys count ws queues more time q before after at same e =
    let s = same_but_rooms func keys count ws queues time q before after at same in
    record { func = refl; keys = refl; count = refl; long = s.long; each = s.each; queues = e; time = refl }

pub given_room : (n : ℕ) (func : Func) (keys : Keys) (count : ℕ) (ws : List Held) (queues more : Pending ℕ) (time q : ℕ) (after : Held) → n ≤ after.room → n ≤ more.room → HasRoom (n + 1) (sharded_of func keys count ws queues time) →
    HasRoom n (sharded_of func keys count (slice_set ws q after) more time)
given_room n func keys count ws queues more time q after le room_ room = record {
  queues = room_;
  workers = each_changed (λ v held. n ≤ held.room) ws q after (λ v held at. let l = room.workers v held at in omega (arith, l)) le;
}
