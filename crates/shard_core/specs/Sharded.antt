-- What shards hold, and which machine they stand for.
use Rattle.std.specs.Prelude.{◌≡◌, ◌<◌, ◌≤◌, ℕ, List, [], ◌∷◌, ◌++◌, length, map, All, Option, Some, None, slice_get, slice_set}
use Rattle.nf_base.specs.declared.func.Func.{Func}
use Rattle.nf_base.specs.declared.keys.Keys.{Keys}
use Rattle.nf_base.specs.declared.packet.Packet.{Packet}
use Rattle.nf_base.specs.declared.share.Share.{Share}
use Rattle.nf_base.specs.Doors.{IsServed}
use Rattle.nf_base.specs.Text.{Function}
use Rattle.nf_base.specs.Functions.{function_of}
use Rattle.nf_engine.specs.View.{fixed_of}
use Rattle.rss_table.specs.Tables.{even_table, queue_of}
use Rattle.shard_laws.specs.Queues.{time_after, last_time}
use Rattle.shard_machine.specs.declared.event.Answer.{Answer}
use Rattle.shard_machine.specs.declared.event.Worked.{Worked}
use Rattle.shard_machine.specs.Machine.{Setup, Machine, Worker, packets_of, lines_of, answers_at}
use Rattle.shard_machine.specs.Events.{Works, IsNext, with_worker, collected}
use Rattle.shard_machine.specs.Moments.{IsSetup, Holds, IsAtStop}
use Rattle.shard_core.specs.declared.collected.Collected.{Collected}
use Rattle.shard_core.specs.declared.collected.Stop.{Stop}
use Rattle.shard_core.specs.Fifos.{Pending}
use Rattle.shard_core.specs.Held as one
use Rattle.shard_core.specs.Held.{Held, IsNew, SameButRoom, GivenOne, HeldWorks, IsStopIn, IsNoStop}

-- The function, the keys, how many queues there are, and the worker of each: there is none while
-- they are apart. Then the queues of the packets that were dispatched and not collected yet, in
-- order, and the time of the last handled packet that was collected, 0 before the first.
pub record Sharded : Type 0 where
  pub func : Func
  pub keys : Keys
  pub count : ℕ
  pub workers : List Held
  pub queues : Pending ℕ
  pub time : ℕ

-- shards, by their fields
abbrev pub sharded_of : Func → Keys → ℕ → List Held → Pending ℕ → ℕ → Sharded
sharded_of func keys count workers queues time = record {
  func = func;
  keys = keys;
  count = count;
  workers = workers;
  queues = queues;
  time = time;
}

-- each queue's worker is there
abbrev pub IsWhole : Sharded → Type 0
IsWhole v = length v.workers ≡ v.count

-- the same with other workers
abbrev pub with_workers : List Held → Sharded → Sharded
with_workers workers v = record v { workers = workers }

-- the queue of a packet
abbrev pub queue_in : Sharded → Packet → ℕ
queue_in v packet = queue_of (even_table v.keys.table v.count) v.keys packet

-- a worker of queue w of n, of a function
pub record IsWorker (func : Func) (n w : ℕ) (held : Held) : Type 0 where
  pub decls_are : held.tables.decls ≡ func.chains
  pub queue_is : held.tables.share.queue ≡ w
  pub of_is : held.tables.share.of ≡ n
  pub ports_are : All (λ (p : Packet). p.id.port < length func.handlers) held.waiting
  pub served_are : All (IsServed (function_of func)) held.waiting

-- What holds of every value: there are 1 to 16 queues, each worker that is there is that of its
-- queue, and each key and each queue that is asked for is there.
pub record IsSharded (func : Func) (keys : Keys) (count : ℕ) (workers : List Held)
    (queues : List ℕ) (table : List ℕ) : Type 0 where
  pub table_is : table ≡ even_table keys.table count
  pub some : 0 < count
  pub most : count ≤ 16
  pub keys_fit : length func.handlers ≤ length keys.ports
  pub each : (w : ℕ) (held : Held) → slice_get workers w ≡ Some held →
      IsWorker func count w held
  pub below : All (λ (q : ℕ). q < count) queues

-- these are a worker of each queue
pub record AreWorkersOf (v : Sharded) (workers : List Held) : Type 0 where
  pub count : length workers ≡ v.count
  pub each : (w : ℕ) (held : Held) → slice_get workers w ≡ Some held →
      IsWorker v.func v.count w held

-- the setup of a machine is that of a value
pub record IsSetupOf (x : Setup) (v : Sharded) : Type 0 where
  pub is : IsSetup x
  pub function : x.function ≡ function_of v.func
  pub workers : x.workers ≡ v.count
  pub queue : (packet : Packet) → x.queue packet ≡ queue_in v packet

-- there is one of each value
abbrev pub SetupsExist : Type 0
SetupsExist = (v : Sharded) → 0 < v.count → v.count ≤ 16 → (x : Setup) × IsSetupOf x v

-- a worker stands for that of its queue, with its own share
pub record WorkerStands (x : Setup) (m : Machine) (w : ℕ) (held : Held) : Type 0 where
  pub stands : one.StandsFor held (m.worker w) (answers_at x.queue w m.collected)
  pub share : held.tables.share ≡ x.share w

-- Shards stand for a machine: they hold of it what isn't collected yet.
pub record StandsFor (x : Setup) (m : Machine) (v : Sharded) : Type 0 where
  pub setup : IsSetupOf x v
  pub holds : Holds x m
  pub whole : IsWhole v
  pub workers : (w : ℕ) (held : Held) → slice_get v.workers w ≡ Some held → WorkerStands x m w held
  pub left : List Packet
  pub sent : m.dispatched ≡ packets_of m.collected ++ left
  pub order : v.queues.items ≡ map x.queue left
  pub time : v.time ≡ last_time 0 (lines_of m.collected)

-- workers that differ in their room alone
pub record AreSameButRoom (old new : List Held) : Type 0 where
  pub count : length new ≡ length old
  pub each : (w : ℕ) (before after : Held) → slice_get old w ≡ Some before →
      slice_get new w ≡ Some after → SameButRoom before after

-- the first workers have room for so many packets more
abbrev pub HaveRoom : ℕ → ℕ → List Held → Type 0
HaveRoom n count workers =
    (w : ℕ) (held : Held) → w < count → slice_get workers w ≡ Some held → n ≤ held.room

-- two that differ in their room alone
pub record SameButRooms (old new : Sharded) : Type 0 where
  pub func : new.func ≡ old.func
  pub keys : new.keys ≡ old.keys
  pub count : new.count ≡ old.count
  pub long : length new.workers ≡ length old.workers
  pub each : (w : ℕ) (before after : Held) → slice_get old.workers w ≡ Some before →
      slice_get new.workers w ≡ Some after → SameButRoom before after
  pub queues : new.queues.items ≡ old.queues.items
  pub time : new.time ≡ old.time

-- there is room for so many packets more, and their answers
pub record HasRoom (n : ℕ) (v : Sharded) : Type 0 where
  pub queues : n ≤ v.queues.room
  pub workers : (w : ℕ) (held : Held) → slice_get v.workers w ≡ Some held → n ≤ held.room

-- the worker of a number is another one
pub record OneChanged (w : ℕ) (old new : Sharded) (before after : Held) : Type 0 where
  pub there : slice_get old.workers w ≡ Some before
  pub workers : new.workers ≡ slice_set old.workers w after
  pub func : new.func ≡ old.func
  pub keys : new.keys ≡ old.keys
  pub count : new.count ≡ old.count
  pub fixed : fixed_of after.tables ≡ fixed_of before.tables

-- a packet was given to its queue
pub record GivenTo (packet : Packet) (old new : Sharded) : Type 0 where
  pub before : Held
  pub after : Held
  pub changed : OneChanged (queue_in old packet) old new before after
  pub one_more : GivenOne packet before after
  pub queues : new.queues.items ≡ old.queues.items ++ queue_in old packet ∷ []
  pub time : new.time ≡ old.time

-- the first workers of n, none of which has seen a packet
pub record AreNew (f : Function) (n count : ℕ) (workers : List Held) : Type 0 where
  pub long : length workers ≡ count
  pub each : (w : ℕ) (held : Held) → slice_get workers w ≡ Some held →
      (share : Share) × (share.queue ≡ w) × (share.of ≡ n) × IsNew f share held

-- shards with so many workers, before the first packet
pub record IsNewSharded (f : Function) (keys : Keys) (n : ℕ) (v : Sharded) : Type 0 where
  pub function : function_of v.func ≡ f
  pub keys_are : v.keys ≡ keys
  pub count : v.count ≡ n
  pub workers : AreNew f n n v.workers
  pub queues : v.queues.items ≡ []
  pub time : v.time ≡ 0

-- a worker worked
pub record WorkedAt (w : ℕ) (came : Worked) (old new : Sharded) : Type 0 where
  pub before : Held
  pub after : Held
  pub changed : OneChanged w old new before after
  pub works : HeldWorks (function_of old.func) came before after
  pub queues : new.queues ≡ old.queues
  pub time : new.time ≡ old.time

-- and the machine's worker with it
pub record WorksAt (x : Setup) (m : Machine) (w : ℕ) (came : Worked) (new : Sharded)
    : Type 0 where
  pub next : Worker
  pub works : Works x.function (x.share w) came (m.worker w) next
  pub stands : StandsFor x (with_worker w next m) new

-- an answer as the machine has it
abbrev pub answer_of : Collected → Answer
answer_of c = record { packet = c.packet; done = c.done }

-- an answer was taken from its worker
pub record TakenFrom (c : Collected) (old new : Sharded) : Type 0 where
  pub before : Held
  pub after : Held
  pub changed : OneChanged c.queue old new before after
  pub answers : before.answers ≡ answer_of c ∷ after.answers
  pub waiting : after.waiting ≡ before.waiting
  pub tables : after.tables ≡ before.tables
  pub stopped : after.stopped ≡ before.stopped
  pub queues : old.queues.items ≡ c.queue ∷ new.queues.items
  pub time : new.time ≡ time_after old.time c.packet

-- nothing is dispatched that isn't collected, or the first such packet's worker has no answer
abbrev pub NoneTaken : List ℕ → List Held → Type 0
NoneTaken [] workers = Unit {0}
NoneTaken (q ∷ qs) workers = (held : Held) → slice_get workers q ≡ Some held → held.answers ≡ []

-- a queue is the first of some
abbrev pub ComesFirst : ℕ → List ℕ → Type 0
ComesFirst q [] = ⊥
ComesFirst q (p ∷ ps) = p ≡ q

-- what collecting comes to
abbrev pub Takes : Option Collected → Sharded → Sharded → Type 0
Takes None old new = NoneTaken old.queues.items old.workers × SameButRooms old new
Takes (Some c) old new = TakenFrom c old new

-- and the machine with it: the next answer is collected, or there is none
abbrev pub Collects : Setup → Machine → Option Collected → Sharded → Type 0
Collects x m None new = ((a : Answer) → IsNext x m a → ⊥) × StandsFor x m new
Collects x m (Some c) new =
    IsNext x m (answer_of c)
    × (c.queue ≡ x.queue c.packet)
    × StandsFor x (collected (answer_of c) m) new

-- the first packet that isn't collected is one at which its worker stopped
abbrev pub StopIn : List ℕ → List Held → Option Stop → Type 0
StopIn [] workers None = Unit {0}
StopIn [] workers (Some stop) = ⊥
StopIn (q ∷ qs) workers (Some stop) =
    (held : Held) × (slice_get workers q ≡ Some held) × IsStopIn held q stop
StopIn (q ∷ qs) workers None = (held : Held) × (slice_get workers q ≡ Some held) × IsNoStop held

-- the machine is at this stop, or at none
abbrev pub IsStopOf : Setup → Machine → Option Stop → Type 0
IsStopOf x m None = (packet : Packet) (chain : ℕ) → IsAtStop x m packet chain → ⊥
IsStopOf x m (Some stop) =
    IsAtStop x m stop.packet stop.chain × (stop.queue ≡ x.queue stop.packet)
