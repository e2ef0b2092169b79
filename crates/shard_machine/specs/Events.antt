-- What each event does.
use Rattle.std.specs.Prelude.{◌≡◌, ◌<◌, ℕ, ◌==◌, List, [], ◌∷◌, ◌++◌, Some, None, if◌then◌else◌}
use Rattle.nf_base.specs.declared.packet.Packet.{Packet}
use Rattle.nf_base.specs.declared.packet.Fields.{Fields}
use Rattle.nf_base.specs.declared.done.Done.{Done}
use Rattle.nf_base.specs.declared.share.Share.{Share}
use Rattle.nf_base.specs.declared.state.State.{State}
use Rattle.nf_base.specs.Text.{Function}
use Rattle.nf_base.specs.Shares.{share_stops, AreOwn, IsShareStop}
use Rattle.nf_base.specs.Step.{step_by}
use Rattle.shard_machine.specs.declared.event.Event.{Event}
use Rattle.shard_machine.specs.declared.event.Event.TheVariants.{Dispatch, Work, Collect}
use Rattle.shard_machine.specs.declared.event.Worked.{Worked}
use Rattle.shard_machine.specs.declared.event.Worked.TheVariants as result
use Rattle.shard_machine.specs.declared.event.Answer.{Answer}
use Rattle.shard_machine.specs.Machine.{Setup, Worker, Machine, packets_of, answers_at}

-- the machine with another worker of a number
abbrev pub with_worker : ℕ → Worker → Machine → Machine
with_worker w worker m =
    record m { worker = λ v. if w == v then worker else m.worker v }

-- a worker with one more packet that waits
abbrev pub given : Packet → Worker → Worker
given packet worker = record worker { waiting = worker.waiting ++ packet ∷ [] }

-- a packet is dispatched: it waits at its queue, behind those that wait there
abbrev pub dispatched : Setup → Packet → Machine → Machine
dispatched x packet m =
    with_worker (x.queue packet) (given packet (m.worker (x.queue packet)))
    (record m { dispatched = m.dispatched ++ packet ∷ [] })

-- A worker works: it takes the first packet that waits, with choices of its share, and has the
-- state that its share's step leaves; or it stops there, for good; or nothing waits.
pub data Works (f : Function) (share : Share) : Worked → Worker → Worker → Type 0 where
  works : (worker : Worker) (packet : Packet) (waiting : List Packet) (done : Done)
      (state : State) →
      worker.stopped ≡ None → worker.waiting ≡ packet ∷ waiting → AreOwn share done.picks →
      step_by (share_stops share) f worker.state packet done.picks
      ≡ Some (record { state = state; done = done }) →
      Works f share result.Done worker
      (record {
        worked = worker.worked ++ record { packet = packet; done = done } ∷ [];
        waiting = waiting;
        state = state;
        stopped = None;
      })
  idles : (worker : Worker) → worker.stopped ≡ None → worker.waiting ≡ [] →
      Works f share result.Idle worker worker
  stops : (worker : Worker) (packet : Packet) (waiting : List Packet) (fields : Fields)
      (choices : List ℕ) (chain : ℕ) →
      worker.stopped ≡ None → worker.waiting ≡ packet ∷ waiting →
      IsShareStop share f worker.state packet fields choices chain →
      Works f share result.Stopped worker (record worker { stopped = Some chain })
  stays : (worker : Worker) (chain : ℕ) → worker.stopped ≡ Some chain →
      Works f share result.Stopped worker worker

-- an answer is the next one to be collected: that to the first dispatched packet that is not
-- collected yet, where its queue's worker has worked it
pub record IsNext (x : Setup) (m : Machine) (a : Answer) : Type 0 where
  pub later : List Packet
  pub dispatched : m.dispatched ≡ packets_of m.collected ++ a.packet ∷ later
  pub more : List Answer
  pub worked :
      (m.worker (x.queue a.packet)).worked
      ≡ answers_at x.queue (x.queue a.packet) m.collected ++ a ∷ more

-- the machine once it is collected
abbrev pub collected : Answer → Machine → Machine
collected a m = record m { collected = m.collected ++ a ∷ [] }

-- One event after another, with all that was collected.
pub data Plays (x : Setup) : List Event → Machine → Machine → List Answer → Type 0 where
  ends : (m : Machine) → Plays x [] m m []
  dispatches : (packet : Packet) (events : List Event) (m n : Machine) (got : List Answer) →
      Plays x events (dispatched x packet m) n got →
      Plays x (Dispatch packet ∷ events) m n got
  works : (w : ℕ) (came : Worked) (worker : Worker) (events : List Event) (m n : Machine)
      (got : List Answer) →
      w < x.workers → Works x.function (x.share w) came (m.worker w) worker →
      Plays x events (with_worker w worker m) n got →
      Plays x (Work w ∷ events) m n got
  collects : (a : Answer) (events : List Event) (m n : Machine) (got : List Answer) →
      IsNext x m a → Plays x events (collected a m) n got →
      Plays x (Collect ∷ events) m n (a ∷ got)
  waits : (events : List Event) (m n : Machine) (got : List Answer) →
      ((a : Answer) → IsNext x m a → ⊥) → Plays x events m n got →
      Plays x (Collect ∷ events) m n got
