-- What the workers of all queues stand for.
use Rattle.std.specs.Prelude.{◌≡◌, ◌<◌, ◌+◌, ℕ, List, [], ◌∷◌, ◌++◌, length, map, Some, slice_get}
use Rattle.nf_base.specs.declared.packet.Packet.{Packet}
use Rattle.nf_base.specs.declared.share.Share.{Share}
use Rattle.nf_base.specs.Text.{Function}
use Rattle.vig_tables.specs.TablesState.{TablesState}
use Rattle.shard_machine.specs.declared.event.Answer.{Answer}
use Rattle.shard_laws.specs.Queues.{last_time}
use Rattle.shard_machine.specs.Machine.{Setup, lines_of, packets_at}
use Rattle.shard_core.specs.declared.collected.Collected.{Collected}
use Rattle.shard_core.specs.declared.collected.Stop.{Stop}
use Rattle.shard_core.specs.Sharded.{answer_of}
use Rattle.ring_line.specs.declared.halt.Halt.{Halt}
use Rattle.ring_line.specs.declared.queue_worker.QueueWorker.{QueueWorker}
use Rattle.ring_line.specs.declared.line.Line.{Line}
use Rattle.ring_line.specs.declared.line.Answered as line_answer
use Rattle.ring_line.specs.declared.line.Answered.TheVariants as answer
use Rattle.ring_line.specs.declared.line.First.{First}
use Rattle.ring_line.specs.declared.line.First.TheVariants as come
use Rattle.ring_line.specs.Handed.{Finishes}
use Rattle.ring_line.specs.QueueWorkers.{in_flight_of, QueueWorkerStands, QueueWorkerHasAnswer, QueueWorkerFirstAnswer, QueueWorkerHalted}
use Rattle.ring_line.specs.Plays.{WorkerEnd, AllCame, collected_at}

-- These packets were sent, each to the worker of its queue, and these answers were collected, in the
-- order sent.
pub record LineStands {G : Type 0} (line : Line G) (x : Setup) (packets : List Packet)
    (got : List Collected) : Type 0 where
  pub count : length line.queue_workers ≡ x.workers
  pub order : map (λ (c : Collected). c.queue) got ++ line.order.items ≡ map x.queue packets
  pub queue_workers : (w : ℕ) (queue_worker : QueueWorker G) →
      slice_get line.queue_workers w ≡ Some queue_worker →
      QueueWorkerStands queue_worker x.function (x.share w) (packets_at x.queue w packets)
      (collected_at w got)
  pub time : line.time ≡ last_time 0 (lines_of (map answer_of got))

-- a packet more can be sent to a queue
pub record HasRoom {G : Type 0} (line : Line G) (queue : ℕ) : Type 0 where
  pub all : length line.order.items < 1024
  pub own : (queue_worker : QueueWorker G) →
      slice_get line.queue_workers queue ≡ Some queue_worker → in_flight_of queue_worker < 64

-- a queue is the first of some
abbrev pub ComesFirst : ℕ → List ℕ → Type 0
ComesFirst q [] = ⊥
ComesFirst q (p ∷ ps) = p ≡ q

-- the answer to the first packet that isn't collected lies ready with the worker of its queue
pub record LineHasAnswer {G : Type 0} (line : Line G) : Type 0 where
  pub queue : ℕ
  pub first : ComesFirst queue line.order.items
  pub queue_worker : QueueWorker G
  pub there : slice_get line.queue_workers queue ≡ Some queue_worker
  pub has : QueueWorkerHasAnswer queue_worker

-- and this is that answer
pub record LineFirstAnswer {G : Type 0} (line : Line G) (c : Collected) : Type 0 where
  pub first : ComesFirst c.queue line.order.items
  pub queue_worker : QueueWorker G
  pub there : slice_get line.queue_workers c.queue ≡ Some queue_worker
  pub answer : QueueWorkerFirstAnswer queue_worker (answer_of c)

-- where a share ended
abbrev pub halt_of : Stop → Halt
halt_of stop = record { chain = stop.chain; packet = stop.packet }

-- the first packet that isn't collected is of a queue whose worker has come to its share's end
pub record StandsAtStop {G : Type 0} (line : Line G) (stop : Stop) : Type 0 where
  pub first : ComesFirst stop.queue line.order.items
  pub halted : (queue_worker : QueueWorker G) →
      slice_get line.queue_workers stop.queue ≡ Some queue_worker →
      QueueWorkerHalted queue_worker (halt_of stop)

-- what has come of the first packet that isn't collected
abbrev pub IsFirst : {G : Type 0} → First → Line G → Type 0
IsFirst come.Answer line = LineHasAnswer line
IsFirst (come.Stop stop) line = StandsAtStop line stop

-- the next answer is collected, or the line stands at a share's end
abbrev pub Collects : {G : Type 0} →
    line_answer.Answered → Line G → Setup → List Packet → List Collected → Type 0
Collects (answer.Done c) line x packets got = LineStands line x packets (got ++ c ∷ [])
Collects (answer.Stop stop) line x packets got =
    LineStands line x packets got × StandsAtStop line stop

-- how many are left then
abbrev pub IsCollected : {G : Type 0} → line_answer.Answered → Line G → Line G → Type 0
IsCollected (answer.Done c) old new = length old.order.items ≡ length new.order.items + 1
IsCollected (answer.Stop stop) old new = new.order ≡ old.order

-- the tables of a worker that is where its queue's worker ended
pub record EndsAs (f : Function) (share : Share) (end : WorkerEnd) (tables : TablesState)
    : Type 0 where
  pub decls : tables.decls ≡ f.chains
  pub share_is : tables.share ≡ share
  pub state_is : tables.state ≡ end.state

-- What the workers come to at their end: each has worked the packets of its queue, in order, and what
-- was collected are the first of its answers. These are their tables.
pub record LineFinishes {G : Type 0} (line : Line G) (x : Setup) (packets : List Packet)
    (got : List Collected) (parts : List TablesState) : Type 0 where
  pub ends : ℕ → WorkerEnd
  pub came : AllCame x packets got line.order.items ends
  pub count : length parts ≡ x.workers
  pub tables : (w : ℕ) (t : TablesState) → slice_get parts w ≡ Some t →
      EndsAs x.function (x.share w) (ends w) t
  pub halted : (w : ℕ) (queue_worker : QueueWorker G) (halt : Halt) →
      slice_get line.queue_workers w ≡ Some queue_worker →
      QueueWorkerHalted queue_worker halt → ((ends w).halt ≡ Some halt) × ((ends w).more ≡ [])

-- the tables of each worker once it is at its end
pub record AreFinished {G : Type 0} (queue_workers : List (QueueWorker G))
    (parts : List TablesState)
    : Type 0 where
  pub count : length parts ≡ length queue_workers
  pub each : (w : ℕ) (queue_worker : QueueWorker G) (tables : TablesState) →
      slice_get queue_workers w ≡ Some queue_worker →
      slice_get parts w ≡ Some tables →
      (f : Function) (share : Share) (packets : List Packet) (answers : List Answer) →
      QueueWorkerStands queue_worker f share packets answers →
      Finishes (QueueWorkerHalted queue_worker) f share packets answers tables

-- the first of some workers is at its end, behind others
pub record MovesOn {G : Type 0} (old : List (QueueWorker G)) (before : List TablesState)
    (new : List (QueueWorker G)) (after : List TablesState) : Type 0 where
  pub first : QueueWorker G
  pub left : old ≡ first ∷ new
  pub more : (done : List (QueueWorker G)) → AreFinished done before →
      AreFinished (done ++ first ∷ []) after

-- workers of the first queues of so many, to which nothing was sent
pub record AreStarted {G : Type 0} (f : Function) (n : ℕ) (queue_workers : List (QueueWorker G)) :
    Type 0 where
  pub each : (w : ℕ) (queue_worker : QueueWorker G) →
      slice_get queue_workers w ≡ Some queue_worker →
      (share : Share)
      × (share.queue ≡ w)
      × (share.of ≡ n)
      × QueueWorkerStands queue_worker f share [] []
