-- What holds of shards at each moment.
use Rattle.std.specs.Prelude.{◌≡◌, ◌<◌, ℕ, List, ◌∷◌, ◌++◌, Some}
use Rattle.nf_base.specs.declared.packet.Packet.{Packet}
use Rattle.nf_base.specs.declared.packet.Fields.{Fields}
use Rattle.nf_base.specs.declared.share.Share.{Share}
use Rattle.nf_base.specs.Text.{Function}
use Rattle.nf_base.specs.Runs.{run_by}
use Rattle.nf_base.specs.Shares.{share_stops, IsShareStop}
use Rattle.nf_base.specs.Step.{opening}
use Rattle.shard_laws.specs.Rule.{AreShares, TakeOfShare}
use Rattle.shard_machine.specs.declared.event.Answer.{Answer}
use Rattle.shard_machine.specs.Machine.{Setup, Worker, Machine, packets_of, dones_of, lines_of, packets_at, answers_at}

-- the shares are those of so many queues, and each packet's queue is one of them
pub record IsSetup (x : Setup) : Type 0 where
  pub some : 0 < x.workers
  pub shares : AreShares x.workers x.share
  pub below : (packet : Packet) → x.queue packet < x.workers

-- the packet that a worker met its share stop at
pub record StoppedAt (f : Function) (share : Share) (worker : Worker) (chain : ℕ) : Type 0 where
  pub packet : Packet
  pub later : List Packet
  pub waiting : worker.waiting ≡ packet ∷ later
  pub fields : Fields
  pub choices : List ℕ
  pub stop : IsShareStop share f worker.state packet fields choices chain

-- What holds of a worker with these packets of its queue: it has worked the first of them, in
-- order, each once, with choices of its share; its state and its answers are those of the run by
-- its share over these alone; where it stopped, it stopped at the next one.
pub record WorkerHolds (x : Setup) (w : ℕ) (sent : List Packet) (worker : Worker) : Type 0 where
  pub order : packets_of worker.worked ++ worker.waiting ≡ sent
  pub ran :
      run_by (share_stops (x.share w)) x.function (opening x.function) (lines_of worker.worked)
      ≡ Some (record { state = worker.state; answers = dones_of worker.worked })
  pub own : TakeOfShare x.share x.queue (lines_of worker.worked)
  pub stop : (chain : ℕ) → worker.stopped ≡ Some chain →
      StoppedAt x.function (x.share w) worker chain

-- What holds of all: each worker has the dispatched packets of its queue; those collected are the
-- first that were dispatched; the answers collected from a queue are the first of its worker.
pub record Holds (x : Setup) (m : Machine) : Type 0 where
  pub worker : (w : ℕ) → WorkerHolds x w (packets_at x.queue w m.dispatched) (m.worker w)
  pub left : List Packet
  pub first : m.dispatched ≡ packets_of m.collected ++ left
  pub more : (w : ℕ) → List Answer
  pub answers : (w : ℕ) → (m.worker w).worked ≡ answers_at x.queue w m.collected ++ more w

-- Shards are at a stop: the packet behind all that were collected is the one at which its queue's
-- worker stopped.
pub record IsAtStop (x : Setup) (m : Machine) (packet : Packet) (chain : ℕ) : Type 0 where
  pub later : List Packet
  pub next : m.dispatched ≡ packets_of m.collected ++ packet ∷ later
  pub stopped : (m.worker (x.queue packet)).stopped ≡ Some chain
  pub at : (m.worker (x.queue packet)).worked ≡ answers_at x.queue (x.queue packet) m.collected
