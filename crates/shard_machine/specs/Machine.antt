-- Shards at a moment: what was dispatched, what each worker did, and what was collected.
use Rattle.std.specs.Prelude.{ℕ, ◌==◌, List, [], ◌∷◌, Option, None, map, if◌then◌else◌}
use Rattle.nf_base.specs.declared.packet.Packet.{Packet}
use Rattle.nf_base.specs.declared.done.Done.{Done}
use Rattle.nf_base.specs.declared.share.Share.{Share}
use Rattle.nf_base.specs.declared.state.State.{State}
use Rattle.nf_base.specs.Text.{Function}
use Rattle.nf_base.specs.Runs.{Handling}
use Rattle.nf_base.specs.Step.{opening}
use Rattle.shard_machine.specs.declared.event.Answer.{Answer}

-- a function, how many workers there are, the share of each, and the queue of a packet
pub record Setup : Type 0 where
  pub function : Function
  pub workers : ℕ
  pub share : ℕ → Share
  pub queue : Packet → ℕ

-- What one worker has: the packets that it worked, in order, those that wait, the first one first,
-- the state of its tables, and the chain at which it met its share stop, where it did; then the
-- first packet that waits is the one that it stopped at.
pub record Worker : Type 0 where
  pub worked : List Answer
  pub waiting : List Packet
  pub state : State
  pub stopped : Option ℕ

-- all packets dispatched and all answers collected, each in order, and the worker of each queue
pub record Machine : Type 0 where
  pub dispatched : List Packet
  pub worker : ℕ → Worker
  pub collected : List Answer

-- a worker before its first packet
abbrev pub new_worker : Function → Worker
new_worker f = record { worked = []; waiting = []; state = opening f; stopped = None }

-- shards before the first packet
abbrev pub new_machine : Function → Machine
new_machine f = record { dispatched = []; worker = λ w. new_worker f; collected = [] }

-- the packets of answers
abbrev pub packets_of : List Answer → List Packet
packets_of answers = map (λ (a : Answer). a.packet) answers

-- what was done with them
abbrev pub dones_of : List Answer → List Done
dones_of answers = map (λ (a : Answer). a.done) answers

-- the packets with the choices that were made
abbrev pub lines_of : List Answer → List Handling
lines_of answers =
    map (λ (a : Answer). record { packet = a.packet; choices = a.done.picks }) answers

-- the packets of a queue
abbrev pub packets_at : (Packet → ℕ) → ℕ → List Packet → List Packet
packets_at queue w [] = []
packets_at queue w (p ∷ ps) =
    if queue p == w then p ∷ packets_at queue w ps else packets_at queue w ps

-- the answers to them
abbrev pub answers_at : (Packet → ℕ) → ℕ → List Answer → List Answer
answers_at queue w [] = []
answers_at queue w (a ∷ more) =
    if queue a.packet == w then a ∷ answers_at queue w more else answers_at queue w more
