-- What all workers come to together: a play of the machine of shards.
use Rattle.std.specs.Prelude.{◌≡◌, ◌<◌, ℕ, ◌==◌, List, [], ◌∷◌, ◌++◌, length, map, replicate, All, Option, Some, if◌then◌else◌}
use Rattle.nf_base.specs.declared.packet.Packet.{Packet}
use Rattle.nf_base.specs.declared.state.State.{State}
use Rattle.nf_base.specs.Step.{opening}
use Rattle.shard_machine.specs.declared.event.Answer.{Answer}
use Rattle.shard_machine.specs.declared.event.Event.{Event}
use Rattle.shard_machine.specs.declared.event.Event.TheVariants.{Dispatch, Collect}
use Rattle.shard_machine.specs.Machine.{Setup, Worker, Machine, new_machine, packets_at}
use Rattle.shard_machine.specs.Events.{Plays}
use Rattle.shard_machine.specs.Moments.{IsSetup, IsAtStop}
use Rattle.shard_core.specs.declared.collected.Collected.{Collected}
use Rattle.shard_core.specs.Apart.{works_from}
use Rattle.shard_core.specs.Sharded.{answer_of}
use Rattle.ring_line.specs.declared.halt.Halt.{Halt}
use Rattle.ring_line.specs.Handled.{CameTo, IsAt}

-- the answers that were collected of a queue, in order
abbrev pub collected_at : ℕ → List Collected → List Answer
collected_at w [] = []
collected_at w (c ∷ got) =
    if c.queue == w then answer_of c ∷ collected_at w got else collected_at w got

-- the answers of a worker that were not collected, where its share ended, and its last state
pub record WorkerEnd : Type 0 where
  pub more : List Answer
  pub halt : Option Halt
  pub state : State

-- Of the packets that were sent each worker handled those of its queue, in order, and what was
-- collected of it are the first of its answers; and the queues of what was collected and of what is
-- left are those of the packets, in the order sent.
pub record AllCame (x : Setup) (packets : List Packet) (got : List Collected) (left : List ℕ)
    (ends : ℕ → WorkerEnd) : Type 0 where
  pub order : map (λ (c : Collected). c.queue) got ++ left ≡ map x.queue packets
  pub thread_workers : (w : ℕ) → w < x.workers →
      CameTo x.function (x.share w) (opening x.function) (packets_at x.queue w packets)
      (collected_at w got ++ (ends w).more) (ends w).halt (ends w).state

-- each packet is dispatched, each worker works so many times, and so many answers are collected
abbrev pub line_events : Setup → List Packet → (ℕ → ℕ) → ℕ → List Event
line_events x packets counts n =
    map (λ (p : Packet). Dispatch p) packets
    ++ (works_from counts 0 x.workers ++ replicate n Collect)

-- a worker gave these answers, and is where its queue's worker ended
pub record CameOut (answers : List Answer) (end : WorkerEnd) (worker : Worker) : Type 0 where
  pub worked : worker.worked ≡ answers ++ end.more
  pub at : IsAt end.halt end.state worker

-- From new shards on these packets were dispatched and these answers collected, each packet with its
-- queue, in a play of the machine after which each worker is where its queue's worker ended.
pub record IsPlay (x : Setup) (packets : List Packet) (got : List Collected)
    (ends : ℕ → WorkerEnd) : Type 0 where
  pub machine : Machine
  pub counts : ℕ → ℕ
  pub plays :
      Plays x (line_events x packets counts (length got)) (new_machine x.function) machine
      (map answer_of got)
  pub dispatched : machine.dispatched ≡ packets
  pub collected : machine.collected ≡ map answer_of got
  pub queues : All (λ (c : Collected). c.queue ≡ x.queue c.packet) got
  pub workers : (w : ℕ) → w < x.workers →
      CameOut (collected_at w got) (ends w) (machine.worker w)

-- so it is of all workers
abbrev pub WorkersAreAPlay : Type 0
WorkersAreAPlay =
    (x : Setup) (packets : List Packet) (got : List Collected) (left : List ℕ)
    (ends : ℕ → WorkerEnd) →
    IsSetup x → AllCame x packets got left ends → IsPlay x packets got ends

-- Where the first queue that is left is one whose share ended behind all that was collected of it,
-- the machine is at that stop.
abbrev pub HaltsAreStops : Type 0
HaltsAreStops =
    (x : Setup) (packets : List Packet) (got : List Collected) (queue : ℕ) (left : List ℕ)
    (ends : ℕ → WorkerEnd) (halt : Halt) (play : IsPlay x packets got ends) →
    IsSetup x → AllCame x packets got (queue ∷ left) ends →
    (ends queue).halt ≡ Some halt → (ends queue).more ≡ [] →
    (queue ≡ x.queue halt.packet) × IsAtStop x play.machine halt.packet halt.chain
