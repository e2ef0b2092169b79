-- What the laws of the machine say.
use Rattle.std.specs.Prelude.{◌≡◌, ◌<◌, ◌≤◌, ℕ, List, [], ◌∷◌, ◌++◌, length, Contains, Some}
use Rattle.nf_base.specs.declared.packet.Packet.{Packet}
use Rattle.nf_base.specs.declared.packet.Fields.{Fields}
use Rattle.nf_base.specs.Runs.{Handling, RunResult, run}
use Rattle.nf_base.specs.Shares.{IsShareStop}
use Rattle.nf_base.specs.Step.{opening}
use Rattle.shard_laws.specs.Queues.{time_after, last_time, MeetAtOneQueue}
use Rattle.shard_laws.specs.Rule.{owner_of, KeepShareRule}
use Rattle.shard_laws.specs.Unions.{IsUnion}
use Rattle.shard_machine.specs.declared.event.Event.{Event}
use Rattle.shard_machine.specs.declared.event.Answer.{Answer}
use Rattle.shard_machine.specs.Machine.{Setup, Machine, new_machine, packets_of, dones_of, lines_of, packets_at, answers_at}
use Rattle.shard_machine.specs.Events.{Plays}
use Rattle.shard_machine.specs.Moments.{IsSetup, Holds, IsAtStop}

-- what holds at each moment holds after any events: so it does of every list of events from new
-- shards on, and what was collected stands behind what was before
pub record HoldsAfter (x : Setup) (m n : Machine) (got : List Answer) : Type 0 where
  pub holds : Holds x n
  pub collected : n.collected ≡ m.collected ++ got

-- so it is of all events
abbrev pub EventsKeepWhatHolds : Type 0
EventsKeepWhatHolds =
    (x : Setup) (events : List Event) (m n : Machine) (got : List Answer) →
    IsSetup x → Holds x m → Plays x events m n got → HoldsAfter x m n got

-- and it holds of new shards
abbrev pub NewShardsHold : Type 0
NewShardsHold = (x : Setup) → Holds x (new_machine x.function)

-- times of handled packets never fall, from a time on
abbrev pub TimesNeverFall : ℕ → List Packet → Type 0
TimesNeverFall time [] = Unit {0}
TimesNeverFall time (p ∷ ps) = (time ≤ time_after time p) × TimesNeverFall (time_after time p) ps

-- any two packets that meet, in a run over dispatched packets, have one queue
abbrev pub OneQueueWhereTheyMeet : Setup → List Packet → Type 0
OneQueueWhereTheyMeet x sent =
    (hs : List Handling) → ((h : Handling) → Contains hs h → Contains sent h.packet) →
    MeetAtOneQueue x.queue x.function hs

-- The run of all that was collected, from the runs of each queue's: the k-th collected is the k-th
-- dispatched packet, with the answer that the run of all gives it, its lines keep the share rule,
-- and the state is the union of what the queues' runs over their collected packets come to.
pub record CollectedRuns (x : Setup) (m : Machine) : Type 0 where
  pub ran : RunResult
  pub is : run x.function (opening x.function) (lines_of m.collected) ≡ Some ran
  pub answers : ran.answers ≡ dones_of m.collected
  pub rule : 1 < x.workers →
      KeepShareRule x.share x.queue x.function (opening x.function) (lines_of m.collected)
  pub runs : ℕ → RunResult
  pub of_queues : (w : ℕ) →
      run x.function (opening x.function) (lines_of (answers_at x.queue w m.collected))
      ≡ Some (runs w)
  pub union :
      IsUnion (owner_of x.workers) x.function (last_time 0 (lines_of m.collected)) x.workers
      (λ w. (runs w).state) ran.state

-- so it is at each moment, where times never fall and packets that meet have one queue
abbrev pub CollectedIsARun : Type 0
CollectedIsARun =
    (x : Setup) (m : Machine) →
    IsSetup x → Holds x m → TimesNeverFall 0 m.dispatched →
    OneQueueWhereTheyMeet x m.dispatched → CollectedRuns x m

-- where all were collected, the state of that run is the union of the workers' states
abbrev pub AllCollectedIsTheUnion : Type 0
AllCollectedIsTheUnion =
    (x : Setup) (m : Machine) (r : RunResult) →
    IsSetup x → Holds x m → TimesNeverFall 0 m.dispatched →
    OneQueueWhereTheyMeet x m.dispatched → packets_of m.collected ≡ m.dispatched →
    run x.function (opening x.function) (lines_of m.collected) ≡ Some r →
    IsUnion (owner_of x.workers) x.function (last_time 0 (lines_of m.collected)) x.workers
    (λ w. (m.worker w).state) r.state

-- A stop of shards is the share stop of its packet, at the state of the run of all that were
-- collected.
abbrev pub StopsAreShareStops : Type 0
StopsAreShareStops =
    (x : Setup) (m : Machine) (packet : Packet) (chain : ℕ) (r : RunResult) →
    1 < x.workers → IsSetup x → Holds x m → TimesNeverFall 0 m.dispatched →
    OneQueueWhereTheyMeet x m.dispatched → IsAtStop x m packet chain →
    run x.function (opening x.function) (lines_of m.collected) ≡ Some r →
    (fields : Fields)
    × (choices : List ℕ)
    × IsShareStop (x.share (x.queue packet)) x.function r.state packet fields choices chain

-- Nothing at or behind a stop is ever collected: where a worker has stopped at the packet behind
-- these, no more than these are.
abbrev pub NothingBehindAStop : Type 0
NothingBehindAStop =
    (x : Setup) (m : Machine) (before later : List Packet) (packet : Packet) (chain : ℕ) →
    IsSetup x → Holds x m → m.dispatched ≡ before ++ packet ∷ later →
    (m.worker (x.queue packet)).stopped ≡ Some chain →
    packets_of (m.worker (x.queue packet)).worked ≡ packets_at x.queue (x.queue packet) before →
    length m.collected ≤ length before
