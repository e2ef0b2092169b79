-- One worker of shards changed.
use Rattle.std.proofs.Common.{◌≡◌, ◌<◌, ◌≤◌, ℕ, zero, suc, List, [], ◌∷◌, length, All, Option, Some, None, slice_get, slice_set, refl, ap, sym, ◌∙◌, subst, arith, inl, inr}
use Rattle.nf_base.specs.declared.func.Func.{Func}
use Rattle.nf_base.specs.declared.keys.Keys.{Keys}
use Rattle.nf_base.specs.declared.packet.Packet.{Packet}
use Rattle.nf_base.specs.Doors.{IsServed}
use Rattle.nf_base.specs.Functions.{function_of}
use Rattle.nf_base.specs.Text.{Function}
use Rattle.nf_base.proofs.Mixes.{got_set}
use Rattle.nf_engine.specs.View.{Fixed, fixed_of}
use Rattle.shard_machine.specs.declared.event.Worked.{Worked}
use Rattle.shard_machine.specs.declared.event.Worked.TheVariants as worked
use Rattle.shard_core.specs.Fifos.{Pending}
use Rattle.shard_core.specs.Held.{Held, Stops, HeldWorks}
use Rattle.shard_core.specs.Sharded.{sharded_of, IsWorker, IsSharded, HasRoom}

-- the worker of a number, if there are so many
pub some_worker : (ws : List Held) (w : ℕ) → w < length ws → (held : Held) × (slice_get ws w ≡ Some held)
some_worker [] w lt = absurd (omega (arith, lt))
some_worker (h ∷ ws) zero lt = (h, refl)
some_worker (h ∷ ws) (suc w) lt = some_worker ws w (omega (arith, lt))

-- a fact of each worker, where one was changed
pub each_changed : (P : ℕ → Held → Type 0) (ws : List Held) (w : ℕ) (after : Held) → ((v : ℕ) (held : Held) → slice_get ws v ≡ Some held → P v held) → P w after → (v : ℕ) (held : Held) → slice_get (slice_set ws w after) v ≡ Some held → P v held
each_changed P ws w after each here v held at = elim (got_set ws w v after held at) [
  | inl q ↦ subst (λ (j : ℕ). P j held) (sym q.0) (subst (P w) q.1 here)
  | inr q ↦ each v held q.1
]

pub worker_of : (func : Func) (n w : ℕ) (before after : Held) → IsWorker func n w before → fixed_of after.tables ≡ fixed_of before.tables → All (λ (p : Packet). p.id.port < length func.handlers) after.waiting → All (IsServed (function_of func)) after.waiting → IsWorker func n w after
worker_of func n w before after is fixed ports served = record {
  decls_are = ap (λ (x : Fixed). x.decls) fixed ∙ is.decls_are;
  queue_is = ap (λ (x : Fixed). x.share.queue) fixed ∙ is.queue_is;
  of_is = ap (λ (x : Fixed). x.share.of) fixed ∙ is.of_is;
  ports_are = ports;
  served_are = served;
}

pub changed_sharded : (func : Func) (keys : Keys) (count : ℕ) (ws : List Held) (queues table : List ℕ) (w : ℕ) (after : Held) → IsSharded func keys count ws queues table → IsWorker func count w after → IsSharded func keys count (slice_set ws w after) queues table
changed_sharded func keys count ws queues table w after is here = record {
  table_is = is.table_is;
  some = is.some;
  most = is.most;
  keys_fit = is.keys_fit;
  each = each_changed (IsWorker func count) ws w after is.each here;
  below = is.below;
}

-- what waits behind the first packet
pub all_tail : (P : Packet → Type 0) (p : Packet) (ps : List Packet) → All P (p ∷ ps) → All P ps
all_tail P p ps all k d lt = all (suc k) d (omega (arith, lt))

stops_waiting : (P : Packet → Type 0) (f : Function) (o : Option ℕ) (before after : Held) → Stops f o before after → All P before.waiting → All P after.waiting
stops_waiting P f None before after n all = subst (All P) (sym n.waiting) all
stops_waiting P f (Some chain) before after n all = subst (All P) (sym n.waiting) all

pub works_waiting : (P : Packet → Type 0) (f : Function) (came : Worked) (before after : Held) → HeldWorks f came before after → All P before.waiting → All P after.waiting
works_waiting P f worked.Done before after n all = all_tail P n.packet after.waiting (subst (All P) n.waited all)
works_waiting P f worked.Idle before after n all = subst (All P) (sym n.2.waiting) all
works_waiting P f worked.Stopped before after n all = stops_waiting P f before.stopped before after n all

pub changed_room : (n : ℕ) (func : Func) (keys : Keys) (count : ℕ) (ws : List Held) (queues : Pending ℕ) (time w : ℕ) (before after : Held) → slice_get ws w ≡ Some before → before.room ≤ after.room → HasRoom n (sharded_of func keys count ws queues time) → HasRoom n (sharded_of func keys count (slice_set ws w after) queues time)
changed_room n func keys count ws queues time w before after at grows room = record {
  queues = room.queues;
  workers = each_changed (λ v held. n ≤ held.room) ws w after room.workers (let le = room.workers w before at in omega (arith, le, grows));
}
