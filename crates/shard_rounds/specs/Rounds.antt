-- What a round comes to.
use Rattle.std.specs.Prelude.{◌≡◌, ℕ, ◌+◌, List, [], ◌∷◌, ◌++◌, length, map, replicate, All, None}
use Rattle.nf_base.specs.declared.packet.Packet.{Packet}
use Rattle.shard_machine.specs.declared.event.Answer.{Answer}
use Rattle.shard_machine.specs.declared.event.Event.{Event}
use Rattle.shard_machine.specs.declared.event.Event.TheVariants.{Dispatch, Collect}
use Rattle.shard_machine.specs.Machine.{Setup, Machine, packets_of, packets_at}
use Rattle.shard_machine.specs.Events.{Plays, IsNext, dispatched}
use Rattle.shard_core.specs.declared.collected.Collected.{Collected}
use Rattle.shard_core.specs.Apart.{works_from}
use Rattle.shard_core.specs.Sharded.{Sharded, StandsFor, IsStopOf, answer_of}
use Rattle.shard_rounds.specs.declared.round.Round.{Round}

-- packets are dispatched, one after another
abbrev pub all_dispatched : Setup → List Packet → Machine → Machine
all_dispatched x [] m = m
all_dispatched x (p ∷ ps) m = all_dispatched x ps (dispatched x p m)

-- how many packets wait at a queue once a batch is dispatched: those that wait there, and those of
-- the batch
abbrev pub waits_at : Setup → Machine → List Packet → ℕ → ℕ
waits_at x m batch w = length (m.worker w).waiting + length (packets_at x.queue w batch)

-- The events of a round: each packet of the batch is dispatched; each worker works as often as
-- packets then wait for it; and so many answers are collected.
abbrev pub round_events : Setup → Machine → List Packet → ℕ → List Event
round_events x m batch n =
    map (λ (p : Packet). Dispatch p) batch
    ++ (works_from (waits_at x m batch) 0 x.workers ++ replicate n Collect)

-- these were collected, one after another
pub record Collecting (x : Setup) (m : Machine) (got : List Collected) (new : Sharded)
    : Type 0 where
  pub machine : Machine
  pub plays : Plays x (replicate (length got) Collect) m machine (map answer_of got)
  pub queues : All (λ (c : Collected). c.queue ≡ x.queue c.packet) got
  pub workers : machine.worker ≡ m.worker
  pub stands : StandsFor x machine new

-- and none is next
pub record CollectedAll (x : Setup) (m : Machine) (got : List Collected) (new : Sharded)
    : Type 0 where
  pub so_far : Collecting x m got new
  pub none : (a : Answer) → IsNext x so_far.machine a → ⊥

-- What a round comes to, from a machine on: its events were played, and what was collected is what
-- it answers, each packet with its queue. It answers the stop that the shards are at, and where
-- they are at none, all that was dispatched is collected.
pub record RanRound (x : Setup) (m : Machine) (batch : List Packet) (round : Round)
    (new : Sharded) : Type 0 where
  pub machine : Machine
  pub plays :
      Plays x (round_events x m batch (length round.handled)) m machine
      (map answer_of round.handled)
  pub queues : All (λ (c : Collected). c.queue ≡ x.queue c.packet) round.handled
  pub dispatched : machine.dispatched ≡ m.dispatched ++ batch
  pub collected : machine.collected ≡ m.collected ++ map answer_of round.handled
  pub stop : IsStopOf x machine round.stop
  pub all : round.stop ≡ None → packets_of machine.collected ≡ machine.dispatched
  pub stands : StandsFor x machine new
