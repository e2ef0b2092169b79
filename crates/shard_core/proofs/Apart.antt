-- Workers taken apart, each of which works for itself, and put back.
use Rattle.std.proofs.Common.{◌≡◌, ◌<◌, ◌≤◌, ◌+◌, ℕ, zero, suc, List, [], ◌∷◌, ◌++◌, length, replicate, Some, slice_get, slice_set, refl, ap, sym, ◌∙◌, subst, arith}
use Rattle.std.proofs.Math.Seq.{set-append_seam}
use Rattle.std.proofs.lemmas.Option.{same_Some, slice_get_within}
use Rattle.nf_base.specs.declared.func.Func.{Func}
use Rattle.nf_base.specs.declared.keys.Keys.{Keys}
use Rattle.nf_base.specs.declared.packet.Packet.{Packet}
use Rattle.nf_base.specs.Doors.{IsServed}
use Rattle.nf_base.specs.Text.{Function}
use Rattle.nf_base.specs.Functions.{function_of}
use Rattle.shard_machine.specs.declared.event.Event.{Event}
use Rattle.shard_machine.specs.declared.event.Event.TheVariants.{Work}
use Rattle.shard_machine.specs.Machine.{Setup, Machine}
use Rattle.shard_machine.specs.Events as event
use Rattle.shard_machine.specs.Events.{Plays, with_worker}
use Rattle.shard_machine.proofs.Sent.{append_twice, length_append}
use Rattle.shard_core.specs.Held as one
use Rattle.shard_core.specs.Held.{Held, WorksOnce, WorkedTimes}
use Rattle.shard_core.specs.Sharded.{Sharded, IsWorker, IsSharded, AreWorkersOf, WorkedAt, StandsFor, HasRoom, with_workers}
use Rattle.shard_core.specs.Apart.{AreWorked, works_from, WorkedBack}
use Rattle.shard_core.proofs.Changing.{some_worker, worker_of, works_waiting}
use Rattle.shard_core.proofs.Machines.{works_at}
use Rattle.shard_core.proofs.Played.{plays_append}

-- one worker, after so many calls
pub still_worker : (func : Func) (n w : ℕ) (f : Function) (old : Held) (k : ℕ) (new : Held) → IsWorker func n w old → WorkedTimes f old k new → IsWorker func n w new
still_worker func n w f old k new is one.begins = is
still_worker func n w f old k new is (one.goes_on m came before after times once) =
    let b = still_worker func n w f old m before is times in
    worker_of func n w before new b once.fixed
    (works_waiting (λ (p : Packet). p.id.port < length func.handlers) f came before new once.works b.ports_are)
    (works_waiting (IsServed (function_of func)) f came before new once.works b.served_are)

pub times_room : (f : Function) (old : Held) (k : ℕ) (new : Held) → WorkedTimes f old k new → old.room ≤ new.room
times_room f old k new one.begins = omega arith
times_room f old k new (one.goes_on m came before after times once) =
    let a = times_room f old m before times in
    let b = once.room in
    omega (arith, a, b)

-- the worker that was there before
was_there : (f : Function) (counts : ℕ → ℕ) (before after : List Held) (w : ℕ) (held : Held) → AreWorked f counts before after → slice_get after w ≡ Some held → (old : Held) × (slice_get before w ≡ Some old)
was_there f counts before after w held are at =
    let lt = slice_get_within after w held at in
    let e = are.count in
    some_worker before w (omega (arith, lt, e))

pub back_by_works : (v : Sharded) (f : Function) (counts : ℕ → ℕ) (before after : List Held) → AreWorkersOf v before → AreWorked f counts before after → AreWorkersOf v after
back_by_works v f counts before after of are = record {
  count = are.count ∙ of.count;
  each = λ w held at.
      let old = was_there f counts before after w held are at in
      still_worker v.func v.count w f old.0 (counts w) held (of.each w old.0 old.1) (are.each w old.0 held old.1 at);
}

pub back_room : (n : ℕ) (v : Sharded) (f : Function) (counts : ℕ → ℕ) (before after : List Held) → HasRoom n (with_workers before v) → AreWorked f counts before after → HasRoom n (with_workers after v)
back_room n v f counts before after room are = record {
  queues = room.queues;
  workers = λ w held at.
      let old = was_there f counts before after w held are at in
      let a = room.workers w old.0 old.1 in
      let b = times_room f old.0 (counts w) held (are.each w old.0 held old.1 at) in
      omega (arith, a, b);
}

-- what holds of shards holds while their workers are apart, and when they are back
pub apart_sharded : (func : Func) (keys : Keys) (count : ℕ) (ws : List Held) (queues table : List ℕ) → IsSharded func keys count ws queues table → IsSharded func keys count [] queues table
apart_sharded func keys count ws queues table is = record {
  table_is = is.table_is;
  some = is.some;
  most = is.most;
  keys_fit = is.keys_fit;
  each = λ w held at. cc;
  below = is.below;
}

pub back_sharded : (func : Func) (keys : Keys) (count : ℕ) (ws others : List Held) (queues table : List ℕ) → IsSharded func keys count ws queues table → ((w : ℕ) (held : Held) → slice_get others w ≡ Some held → IsWorker func count w held) → IsSharded func keys count others queues table
back_sharded func keys count ws others queues table is each = record {
  table_is = is.table_is;
  some = is.some;
  most = is.most;
  keys_fit = is.keys_fit;
  each = each;
  below = is.below;
}

set_same : (ws : List Held) (w : ℕ) (held : Held) → slice_get ws w ≡ Some held → slice_set ws w held ≡ ws
set_same [] w held at = refl
set_same (h ∷ ws) zero held at = ap (λ (z : Held). z ∷ ws) (sym (same_Some _ _ at))
set_same (h ∷ ws) (suc w) held at = ap (λ (zs : List Held). h ∷ zs) (set_same ws w held at)

set_twice : (ws : List Held) (w : ℕ) (a b : Held) → slice_set (slice_set ws w a) w b ≡ slice_set ws w b
set_twice [] w a b = refl
set_twice (h ∷ ws) zero a b = refl
set_twice (h ∷ ws) (suc w) a b = ap (λ (zs : List Held). h ∷ zs) (set_twice ws w a b)

got_here : (ws : List Held) (w : ℕ) (a held : Held) → slice_get ws w ≡ Some held → slice_get (slice_set ws w a) w ≡ Some a
got_here [] w a held at = cc
got_here (h ∷ ws) zero a held at = refl
got_here (h ∷ ws) (suc w) a held at = got_here ws w a held at

got_seam : (ws : List Held) (a : Held) (bs : List Held) → slice_get (ws ++ a ∷ bs) (length ws) ≡ Some a
got_seam [] a bs = refl
got_seam (w ∷ ws) a bs = got_seam ws a bs

one_more : (n : ℕ) (e : Event) → replicate n e ++ e ∷ [] ≡ replicate (suc n) e
one_more zero e = refl
one_more (suc n) e = ap (λ (zs : List Event). e ∷ zs) (one_more n e)

-- one worker's works are events
record OneBack (x : Setup) (m : Machine) (w k : ℕ) (new : Sharded) : Type 0 where
  machine : Machine
  plays : Plays x (replicate k (Work w)) m machine []
  stands : StandsFor x machine new

one_back : (x : Setup) (m : Machine) (v : Sharded) (w : ℕ) (before : Held) (k : ℕ) (after : Held) → StandsFor x m v → slice_get v.workers w ≡ Some before → WorkedTimes (function_of v.func) before k after → OneBack x m w k (with_workers (slice_set v.workers w after) v)
one_back x m v w before k after h at one.begins = record {
  machine = m;
  plays = event.ends m;
  stands = subst (λ (ws : List Held). StandsFor x m (with_workers ws v)) (sym (set_same v.workers w before at)) h;
}
one_back x m v w before k after h at (one.goes_on n came middle after_ times once) =
    let r = one_back x m v w before n middle h at times in
    let old = with_workers (slice_set v.workers w middle) v in
    let new = with_workers (slice_set v.workers w after) v in
    let worked : WorkedAt w came old new = record {
      before = middle;
      after = after;
      changed = record { there = got_here v.workers w middle before at; workers = sym (set_twice v.workers w middle after); func = refl; keys = refl; count = refl; fixed = once.fixed };
      works = once.works;
      queues = refl;
      time = refl;
    } in
    let next = works_at x r.machine w came old new r.stands worked in
    let within = slice_get_within v.workers w before at in
    let whole = h.whole in
    let many = h.setup.workers in
    let lt : w < x.workers = omega (arith, within, whole, many) in
    let last : Plays x (Work w ∷ []) r.machine (with_worker w next.next r.machine) [] = event.works w came next.next [] r.machine (with_worker w next.next r.machine) [] lt next.works (event.ends (with_worker w next.next r.machine)) in
    record {
      machine = with_worker w next.next r.machine;
      plays = subst (λ (es : List Event). Plays x es m (with_worker w next.next r.machine) []) (one_more n (Work w)) (plays_append x (replicate n (Work w)) (Work w ∷ []) m r.machine (with_worker w next.next r.machine) [] [] r.plays last);
      stands = next.stands;
    }

-- so are the works of all, from one of them on
record AllBack (x : Setup) (m : Machine) (counts : ℕ → ℕ) (w n : ℕ) (new : Sharded) : Type 0 where
  machine : Machine
  plays : Plays x (works_from counts w n) m machine []
  stands : StandsFor x machine new

all_back : (x : Setup) (m : Machine) (v : Sharded) (counts : ℕ → ℕ) (w : ℕ) (done before after : List Held) → length done ≡ w → StandsFor x m (with_workers (done ++ before) v) → length after ≡ length before →
    ((i : ℕ) (old new : Held) → slice_get before i ≡ Some old → slice_get after i ≡ Some new → WorkedTimes (function_of v.func) old (counts (w + i)) new) → AllBack x m counts w (length before) (with_workers (done ++ after) v)
all_back x m v counts w done [] [] long h same each = record { machine = m; plays = event.ends m; stands = h }
all_back x m v counts w done [] (a ∷ after) long h same each = absurd (omega (arith, same))
all_back x m v counts w done (b ∷ before) [] long h same each = absurd (omega (arith, same))
all_back x m v counts w done (b ∷ before) (a ∷ after) long h same each =
    let first : WorkedTimes (function_of v.func) b (counts w) a = subst (λ (j : ℕ). WorkedTimes (function_of v.func) b (counts j) a) (plus_none w) (each 0 b a refl refl) in
    let at : slice_get (done ++ b ∷ before) w ≡ Some b = ap (slice_get (done ++ b ∷ before)) (sym long) ∙ got_seam done b before in
    let r = one_back x m (with_workers (done ++ b ∷ before) v) w b (counts w) a h at first in
    let put : slice_set (done ++ b ∷ before) w a ≡ (done ++ a ∷ []) ++ before = ap (λ (j : ℕ). slice_set (done ++ b ∷ before) j a) (sym long) ∙ set-append_seam done b before a ∙ sym (append_twice done (a ∷ []) before) in
    let rest = all_back x r.machine v counts (suc w) (done ++ a ∷ []) before after (one_longer w done a long) (subst (λ (ws : List Held). StandsFor x r.machine (with_workers ws v)) put r.stands) (omega (arith, same))
    (λ i old new was is. subst (λ (j : ℕ). WorkedTimes (function_of v.func) old (counts j) new) (plus_one w i) (each (suc i) old new was is)) in
    record {
      machine = rest.machine;
      plays = plays_append x (replicate (counts w) (Work w)) (works_from counts (suc w) (length before)) m r.machine rest.machine [] [] r.plays rest.plays;
      stands = subst (λ (ws : List Held). StandsFor x rest.machine (with_workers ws v)) (append_twice done (a ∷ []) after) rest.stands;
    }
  where
    plus_none : (w : ℕ) → w + 0 ≡ w
    plus_none w = omega arith

    plus_one : (w i : ℕ) → w + suc i ≡ suc w + i
    plus_one w i = omega arith

    one_longer : (w : ℕ) (done : List Held) (a : Held) → length done ≡ w → length (done ++ a ∷ []) ≡ suc w
    one_longer w done a long = let e : length (done ++ a ∷ []) ≡ length done + 1 = length_append done (a ∷ []) in omega (arith, e, long)

pub worked_back : (x : Setup) (m : Machine) (v new : Sharded) (counts : ℕ → ℕ) (before after : List Held) → new ≡ with_workers after v → StandsFor x m (with_workers before v) → AreWorked (function_of v.func) counts before after → WorkedBack x m counts new
worked_back x m v new counts before after is h are =
    let r = all_back x m v counts 0 [] before after refl h are.count (λ i old more was got. subst (λ (j : ℕ). WorkedTimes (function_of v.func) old (counts j) more) (none_plus i) (are.each i old more was got)) in
    subst (WorkedBack x m counts) (sym is)
    (record {
      machine = r.machine;
      plays = subst (λ (n : ℕ). Plays x (works_from counts 0 n) m r.machine []) (sym are.count) r.plays;
      stands = r.stands;
    })
  where
    none_plus : (i : ℕ) → i ≡ 0 + i
    none_plus i = omega arith
