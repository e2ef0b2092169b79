-- What a worker stands for, whether it has a thread or not.
use Rattle.std.specs.Prelude.{◌≡◌, ◌<◌, ◌+◌, ℕ, List, [], ◌∷◌, length}
use Rattle.nf_base.specs.declared.func.Func.{Func}
use Rattle.nf_base.specs.declared.packet.Packet.{Packet}
use Rattle.nf_base.specs.declared.share.Share.{Share}
use Rattle.nf_base.specs.Doors.{IsServed}
use Rattle.nf_base.specs.Functions.{function_of}
use Rattle.nf_base.specs.Text.{Function}
use Rattle.shard_machine.specs.declared.event.Answer.{Answer}
use Rattle.ring_line.specs.declared.halt.Halt.{Halt}
use Rattle.ring_line.specs.declared.queue_worker.QueueWorker.{QueueWorker}
use Rattle.ring_line.specs.declared.queue_worker.QueueWorker.TheVariants as queue_worker
use Rattle.ring_line.specs.ThreadWorkers.{StandsFor, HasAnswer, FirstAnswer, HasHalted}
use Rattle.ring_line.specs.InlineWorkers.{InlineWorkerStands, InlineWorkerHasAnswer, InlineWorkerFirstAnswer, InlineWorkerHalted}

-- a packet came in at a port of a function that has a handler for it
pub record CanHandle (f : Function) (packet : Packet) : Type 0 where
  pub port : packet.id.port < length f.handlers
  pub served : IsServed f packet

-- how many packets are sent and not collected
abbrev pub in_flight_of : {G : Type 0} → QueueWorker G → ℕ
in_flight_of (queue_worker.Threaded thread_worker) = thread_worker.in_flight
in_flight_of (queue_worker.Inline inline_worker) = inline_worker.in_flight

-- the same of all of some
abbrev pub all_in_flight : {G : Type 0} → List (QueueWorker G) → ℕ
all_in_flight [] = 0
all_in_flight (queue_worker ∷ queue_workers) =
    in_flight_of queue_worker + all_in_flight queue_workers

-- it stands for these packets and these answers, with its own text of a function
abbrev pub StandsAs : {G : Type 0} → QueueWorker G → Func → Share → List Packet → List Answer →
    Type 0
StandsAs (queue_worker.Threaded thread_worker) func share packets answers =
    StandsFor thread_worker func share packets answers
StandsAs (queue_worker.Inline inline_worker) func share packets answers =
    InlineWorkerStands inline_worker func share packets answers

-- the same of any text
pub record QueueWorkerStands {G : Type 0} (at : QueueWorker G) (f : Function) (share : Share)
    (packets : List Packet) (answers : List Answer) : Type 0 where
  pub func : Func
  pub same : function_of func ≡ f
  pub stands : StandsAs at func share packets answers

-- an answer lies ready that isn't collected
abbrev pub QueueWorkerHasAnswer : {G : Type 0} → QueueWorker G → Type 0
QueueWorkerHasAnswer (queue_worker.Threaded thread_worker) = HasAnswer thread_worker
QueueWorkerHasAnswer (queue_worker.Inline inline_worker) = InlineWorkerHasAnswer inline_worker

-- and this is the first of them
abbrev pub QueueWorkerFirstAnswer : {G : Type 0} → QueueWorker G → Answer → Type 0
QueueWorkerFirstAnswer (queue_worker.Threaded thread_worker) answer =
    FirstAnswer thread_worker answer
QueueWorkerFirstAnswer (queue_worker.Inline inline_worker) answer =
    InlineWorkerFirstAnswer inline_worker answer

-- it has come to its share's end
abbrev pub QueueWorkerHalted : {G : Type 0} → QueueWorker G → Halt → Type 0
QueueWorkerHalted (queue_worker.Threaded thread_worker) halt = HasHalted thread_worker halt
QueueWorkerHalted (queue_worker.Inline inline_worker) halt = InlineWorkerHalted inline_worker halt
