-- What a worker holds, and what it stands for.
use Rattle.std.specs.Prelude.{◌≡◌, ◌≤◌, ℕ, suc, ◌-◌, min, List, [], ◌∷◌, ◌++◌, length, Option, Some, None}
use Rattle.nf_base.specs.declared.packet.Packet.{Packet}
use Rattle.nf_base.specs.declared.packet.PacketId.{PacketId}
use Rattle.nf_base.specs.declared.done.Done.{Done}
use Rattle.nf_base.specs.declared.share.Share.{Share}
use Rattle.nf_base.specs.Text.{Function}
use Rattle.nf_base.specs.Shares.{share_stops, AreOwn}
use Rattle.nf_base.specs.Step.{step_by}
use Rattle.nf_engine.specs.Handlings.{StopsAt}
use Rattle.nf_engine.specs.View.{fixed_of}
use Rattle.nf_engine.specs.declared.handling.Handled.{Handled}
use Rattle.nf_engine.specs.declared.handling.Handled.TheVariants as handled
use Rattle.vig_tables.specs.TablesState.{TablesState, opened_tables}
use Rattle.shard_machine.specs.declared.event.Answer.{Answer}
use Rattle.shard_machine.specs.declared.event.Worked.{Worked}
use Rattle.shard_machine.specs.declared.event.Worked.TheVariants as worked
use Rattle.shard_machine.specs.Machine.{Worker}
use Rattle.shard_machine.specs.Events.{Works}
use Rattle.shard_core.specs.declared.collected.Stop.{Stop}
use Rattle.shard_core.specs.Fifos.{Pending}

-- a worker's tables, the packets that wait for it, its answers that were not taken yet, the chain
-- at which it stopped, and for how many more packets it has room
pub record Held : Type 0 where
  pub tables : TablesState
  pub waiting : List Packet
  pub answers : List Answer
  pub stopped : Option ℕ
  pub room : ℕ

-- for a packet more there is to be room to wait and for its answer
abbrev pub room_of : Pending Packet → Pending Answer → ℕ
room_of waiting answers = min waiting.room (answers.room - length waiting.items)

-- a worker, by its fields
abbrev pub held_of : TablesState → Pending Packet → Pending Answer → Option ℕ → Held
held_of tables waiting answers stopped = record {
  tables = tables;
  waiting = waiting.items;
  answers = answers.items;
  stopped = stopped;
  room = room_of waiting answers;
}

-- a worker that has seen no packet
pub record IsNew (f : Function) (share : Share) (held : Held) : Type 0 where
  pub tables : held.tables ≡ opened_tables f share
  pub waiting : held.waiting ≡ []
  pub answers : held.answers ≡ []
  pub stopped : held.stopped ≡ None

-- two that differ in their room alone
pub record SameButRoom (old new : Held) : Type 0 where
  pub tables : new.tables ≡ old.tables
  pub waiting : new.waiting ≡ old.waiting
  pub answers : new.answers ≡ old.answers
  pub stopped : new.stopped ≡ old.stopped

-- a packet more waits
pub record GivenOne (packet : Packet) (old new : Held) : Type 0 where
  pub waiting : new.waiting ≡ old.waiting ++ packet ∷ []
  pub tables : new.tables ≡ old.tables
  pub answers : new.answers ≡ old.answers
  pub stopped : new.stopped ≡ old.stopped

-- the number of the first packet that waits
abbrev pub first_id : List Packet → Option PacketId
first_id [] = None
first_id (p ∷ ps) = Some p.id

-- a worker stands for a worker of the machine, of whose answers these were taken
pub record StandsFor (held : Held) (worker : Worker) (taken : List Answer) : Type 0 where
  pub worked : worker.worked ≡ taken ++ held.answers
  pub waiting : worker.waiting ≡ held.waiting
  pub stopped : worker.stopped ≡ held.stopped
  pub state : held.stopped ≡ None → worker.state ≡ held.tables.state

-- a packet is the first that waits
abbrev pub StartsWith : Packet → List Packet → Type 0
StartsWith packet [] = ⊥
StartsWith packet (p ∷ ps) = p ≡ packet

-- the first packet that waits is worked
pub record WorksNext (f : Function) (old new : Held) : Type 0 where
  pub packet : Packet
  pub done : Done
  pub running : old.stopped ≡ None
  pub waited : old.waiting ≡ packet ∷ new.waiting
  pub own : AreOwn old.tables.share done.picks
  pub stepped :
      step_by (share_stops old.tables.share) f old.tables.state packet done.picks
      ≡ Some (record { state = new.tables.state; done = done })
  pub answered : new.answers ≡ old.answers ++ record { packet = packet; done = done } ∷ []
  pub runs : new.stopped ≡ None

-- the first packet that waits meets the share stop
pub record StopsNext (f : Function) (old new : Held) : Type 0 where
  pub packet : Packet
  pub later : List Packet
  pub chain : ℕ
  pub running : old.stopped ≡ None
  pub waited : old.waiting ≡ packet ∷ later
  pub stop : StopsAt old.tables.share f old.tables.state packet chain
  pub waiting : new.waiting ≡ old.waiting
  pub answers : new.answers ≡ old.answers
  pub stopped : new.stopped ≡ Some chain

-- a worker stops, or has stopped before
abbrev pub Stops : Function → Option ℕ → Held → Held → Type 0
Stops f None old new = StopsNext f old new
Stops f (Some chain) old new = SameButRoom old new

-- what one packet's work comes to
abbrev pub HeldWorks : Function → Worked → Held → Held → Type 0
HeldWorks f worked.Done old new = WorksNext f old new
HeldWorks f worked.Idle old new =
    (old.stopped ≡ None) × (old.waiting ≡ []) × SameButRoom old new
HeldWorks f worked.Stopped old new = Stops f old.stopped old new

-- what one call of a worker's work comes to: its chains and its share stay, and no room is taken
pub record WorksOnce (f : Function) (came : Worked) (old new : Held) : Type 0 where
  pub works : HeldWorks f came old new
  pub fixed : fixed_of new.tables ≡ fixed_of old.tables
  pub room : old.room ≤ new.room

-- so many calls, one after another
pub data WorkedTimes (f : Function) (first : Held) : ℕ → Held → Type 0 where
  begins : WorkedTimes f first 0 first
  goes_on : (n : ℕ) (came : Worked) (before after : Held) →
      WorkedTimes f first n before → WorksOnce f came before after →
      WorkedTimes f first (suc n) after

-- what handling a packet at once comes to
abbrev pub HeldHandles : Function → Packet → Handled → Held → Held → Type 0
HeldHandles f packet (handled.Done done) old new =
    AreOwn old.tables.share done.picks
    × (step_by (share_stops old.tables.share) f old.tables.state packet done.picks
    ≡ Some (record { state = new.tables.state; done = done }))
    × (new.stopped ≡ None)
HeldHandles f packet (handled.ShareFull chain) old new =
    StopsAt old.tables.share f old.tables.state packet chain × (new.stopped ≡ Some chain)

-- and what it stands for then: the work of the machine's worker
pub record WorksOn (f : Function) (came : Worked) (share : Share) (worker : Worker) (new : Held)
    (taken : List Answer) : Type 0 where
  pub next : Worker
  pub works : Works f share came worker next
  pub stands : StandsFor new next taken

-- a worker whose answers were all taken has stopped at a packet
pub record IsStopIn (held : Held) (queue : ℕ) (stop : Stop) : Type 0 where
  pub queue_is : stop.queue ≡ queue
  pub answers : held.answers ≡ []
  pub stopped : held.stopped ≡ Some stop.chain
  pub first : StartsWith stop.packet held.waiting

-- a worker has answers that were not taken, has not stopped, or nothing waits
abbrev pub IsNoStop : Held → Type 0
IsNoStop held = (packet : Packet) (chain : ℕ) →
    held.answers ≡ [] → held.stopped ≡ Some chain → StartsWith packet held.waiting → ⊥
