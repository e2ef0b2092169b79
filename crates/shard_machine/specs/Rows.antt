-- What two queues come to with a few packets, event by event. The function is the one that looks a
-- source up, makes a flow of it for 10 nanoseconds, counts in a cell, and floods; even sources go to
-- queue 0, odd ones to queue 1.
use Rattle.std.specs.Prelude.{◌≡◌, ℕ, List, [], ◌∷◌, Some, None, map}
use Rattle.nf_base.specs.declared.done.Action.TheVariants.{Flood}
use Rattle.nf_base.specs.declared.packet.Packet.{Packet}
use Rattle.nf_base.specs.declared.share.Share.{Share}
use Rattle.nf_base.specs.declared.state.State.{State}
use Rattle.nf_base.specs.Runs.{Handling}
use Rattle.nf_base.specs.Step.{no_edits}
use Rattle.nf_laws.specs.Samples.{frame, arrives}
use Rattle.shard_laws.specs.Rows.{counted, by_source, by_time, flow, state_at, first, second, third, again}
use Rattle.shard_laws.specs.Rule.{AreShares}
use Rattle.shard_machine.specs.declared.event.Answer.{Answer}
use Rattle.shard_machine.specs.declared.event.Event.{Event}
use Rattle.shard_machine.specs.declared.event.Event.TheVariants.{Dispatch, Work, Collect}
use Rattle.shard_machine.specs.declared.event.Worked.{Worked}
use Rattle.shard_machine.specs.declared.event.Worked.TheVariants.{Idle, Stopped}
use Rattle.shard_machine.specs.Machine.{Setup, Worker, Machine, new_worker, new_machine, lines_of, packets_at, answers_at}
use Rattle.shard_machine.specs.Events.{given, Works, IsNext, Plays}
use Rattle.shard_machine.specs.Moments.{IsSetup, IsAtStop}
use Rattle.shard_machine.specs.Laws.{TimesNeverFall, OneQueueWhereTheyMeet}

-- two queues
abbrev pub two : (ℕ → Share) → Setup
two share = record { function = counted; workers = 2; share = share; queue = by_source }

-- the same, where the time decides on the queue
abbrev pub two_by_time : (ℕ → Share) → Setup
two_by_time share = record { function = counted; workers = 2; share = share; queue = by_time }

-- the answer to a packet with its choices: each is flooded
abbrev pub answer : Handling → Answer
answer h = record {
  packet = h.packet;
  done = record { action = Flood; edits = no_edits; picks = h.choices };
}

-- a worker that worked these, and has not stopped
abbrev pub has_worked : List Handling → List Packet → State → Worker
has_worked worked waiting state = record {
  worked = map answer worked;
  waiting = waiting;
  state = state;
  stopped = None;
}

-- the state of queue 0 after its first packet, from 2
abbrev pub of_first : State
of_first = state_at (flow 1 2 ∷ None ∷ None ∷ None ∷ []) 1 (7 ∷ 8 ∷ 10 ∷ 10 ∷ [])

-- that of queue 1 after its first packet, from 3
abbrev pub of_second : State
of_second = state_at (None ∷ flow 5 3 ∷ None ∷ None ∷ []) 5 (7 ∷ 8 ∷ 9 ∷ 11 ∷ [])

-- new shards come by events to these packets, answers and workers
pub record ComesTo (x : Setup) (events : List Event) (sent : List Packet) (got : List Handling)
    (zero one : Worker) : Type 0 where
  pub machine : Machine
  pub plays : Plays x events (new_machine x.function) machine (map answer got)
  pub dispatched : machine.dispatched ≡ sent
  pub collected : machine.collected ≡ map answer got
  pub zero_is : machine.worker 0 ≡ zero
  pub one_is : machine.worker 1 ≡ one

-- two packets are dispatched, one a queue, and these events follow
abbrev pub both_then : List Event → List Event
both_then events = Dispatch first.packet ∷ Dispatch second.packet ∷ events

-- both were worked and collected, in the order dispatched
abbrev pub ComesToBoth : Setup → List Event → Type 0
ComesToBoth x events =
    ComesTo x events (first.packet ∷ second.packet ∷ []) (first ∷ second ∷ [])
    (has_worked (first ∷ []) [] of_first) (has_worked (second ∷ []) [] of_second)

-- Two packets of two queues come to the same whichever worker works first; where the second one is
-- worked and the first one isn't, nothing is collected. A worker without packets is idle.
pub record TwoPacketsAreWorked (x : Setup) : Type 0 where
  pub in_order :
      ComesToBoth x (both_then (Work 0 ∷ Work 1 ∷ Collect ∷ Collect ∷ []))
  pub other_order :
      ComesToBoth x (both_then (Work 1 ∷ Work 0 ∷ Collect ∷ Collect ∷ []))
  pub waits :
      ComesToBoth x (both_then (Work 1 ∷ Collect ∷ Work 0 ∷ Collect ∷ Collect ∷ Collect ∷ []))
  pub one_by_one :
      ComesToBoth x
      (Dispatch first.packet ∷ Work 0 ∷ Work 1 ∷ Collect ∷ Dispatch second.packet ∷ Work 1
      ∷ Collect ∷ [])
  pub waiting :
      ComesTo x (Dispatch first.packet ∷ Dispatch third.packet ∷ Work 0 ∷ [])
      (first.packet ∷ third.packet ∷ []) []
      (has_worked (first ∷ []) (third.packet ∷ []) of_first) (new_worker counted)

-- from 1 and from 3, at the two indices of queue 1
abbrev pub full_first : Handling
full_first = arrives 0 0 2 (frame 1 0 0 0) (1 ∷ [])

abbrev pub full_second : Handling
full_second = arrives 0 1 3 (frame 3 0 0 0) (3 ∷ [])

-- from 5, and from 2 behind it
abbrev pub one_too_many : Handling
one_too_many = arrives 0 2 4 (frame 5 0 0 0) []

abbrev pub behind : Handling
behind = arrives 0 3 5 (frame 2 0 0 0) (0 ∷ [])

-- the state of queue 1 after the first of them
abbrev pub of_one : State
of_one = state_at (None ∷ flow 2 1 ∷ None ∷ None ∷ []) 2 (7 ∷ 9 ∷ 9 ∷ 10 ∷ [])

-- and with its share full
abbrev pub of_full : State
of_full =
    state_at (None ∷ flow 2 1 ∷ None ∷ flow 3 3 ∷ []) 3 (7 ∷ 9 ∷ 9 ∷ 11 ∷ [])

-- that of queue 0
abbrev pub of_behind : State
of_behind = state_at (flow 5 2 ∷ None ∷ None ∷ None ∷ []) 5 (7 ∷ 8 ∷ 10 ∷ 10 ∷ [])

-- queue 1 has stopped at its third packet, in its one chain
abbrev pub stopped_worker : Worker
stopped_worker = record {
  worked = map answer (full_first ∷ full_second ∷ []);
  waiting = one_too_many.packet ∷ [];
  state = of_full;
  stopped = Some 0;
}

-- all four packets
abbrev pub four : List Packet
four = full_first.packet ∷ full_second.packet ∷ one_too_many.packet ∷ behind.packet ∷ []

-- they are dispatched; queue 1 works its two packets and stops at the third, for good; queue 0
-- works the one behind it; and what stands before the stop is collected
abbrev pub to_the_stop : List Event
to_the_stop =
    Dispatch full_first.packet ∷ Dispatch full_second.packet ∷ Dispatch one_too_many.packet
    ∷ Dispatch behind.packet ∷ Work 1 ∷ Work 1 ∷ Work 1 ∷ Work 1 ∷ Work 0 ∷ Collect ∷ Collect
    ∷ Collect ∷ []

-- A share that is full stops its worker, at that packet, for good. The packet behind it is worked
-- at another queue and not collected.
pub record AShareStops (x : Setup) : Type 0 where
  pub comes :
      ComesTo x to_the_stop four (full_first ∷ full_second ∷ [])
      (has_worked (behind ∷ []) [] of_behind) stopped_worker
  pub at_stop : IsAtStop x comes.machine one_too_many.packet 0

-- What isn't so. A worker with a packet is not idle, and one that stopped says so, and stays as it
-- is. No worker is beyond the number. The second packet is not the next one, the first one is, and
-- it is collected where that is asked for.
pub record OtherThingsAreRefused (x : Setup) : Type 0 where
  pub no_idle : (after : Worker) →
      Works counted (x.share 0) Idle (given first.packet (new_worker counted)) after → ⊥
  pub stays : (came : Worked) (after : Worker) →
      Works counted (x.share 1) came stopped_worker after →
      (came ≡ Stopped) × (after ≡ stopped_worker)
  pub no_worker : (m n : Machine) (got : List Answer) → Plays x (Work 2 ∷ []) m n got → ⊥
  pub not_second : (m : Machine) →
      m.dispatched ≡ first.packet ∷ second.packet ∷ [] → m.collected ≡ [] →
      IsNext x m (answer second) → ⊥
  pub no_waiting : (m n : Machine) →
      IsNext x m (answer first) → Plays x (Collect ∷ []) m n [] → ⊥
  pub no_stop : (m : Machine) (packet : Packet) (chain : ℕ) →
      IsAtStop x m packet chain → (m.worker (x.queue packet)).stopped ≡ None → ⊥

-- Two queues are a setup; where the time decides, two packets of one flow are at two queues and
-- meet.
pub record SetupsAreTold (share : ℕ → Share) : Type 0 where
  pub is : IsSetup (two share)
  pub meet :
      OneQueueWhereTheyMeet (two_by_time share)
      (map (λ (h : Handling). h.packet) again) → ⊥
  pub nothing_sent : OneQueueWhereTheyMeet (two_by_time share) []
  pub never_fall : TimesNeverFall 1 (first.packet ∷ second.packet ∷ third.packet ∷ [])
  pub fall : TimesNeverFall 0 (second.packet ∷ first.packet ∷ []) → ⊥
  pub skipped :
      TimesNeverFall 5
      ((arrives 0 0 2 None []).packet ∷ (arrives 0 1 5 (frame 2 0 0 0) []).packet ∷ [])
  pub packets :
      packets_at by_source 1 (first.packet ∷ second.packet ∷ third.packet ∷ [])
      ≡ second.packet ∷ []
  pub answers :
      answers_at by_source 0 (answer first ∷ answer second ∷ answer third ∷ [])
      ≡ answer first ∷ answer third ∷ []
  pub lines : lines_of (answer first ∷ answer second ∷ []) ≡ first ∷ second ∷ []

-- so it is for the shares of two queues
abbrev pub TwoPacketsAreWorkedBy : Type 0
TwoPacketsAreWorkedBy =
    (share : ℕ → Share) → AreShares 2 share → TwoPacketsAreWorked (two share)

abbrev pub AShareStopsFor : Type 0
AShareStopsFor = (share : ℕ → Share) → AreShares 2 share → AShareStops (two share)

abbrev pub OtherThingsAreRefusedBy : Type 0
OtherThingsAreRefusedBy = (share : ℕ → Share) → OtherThingsAreRefused (two share)

abbrev pub SetupsAreToldOf : Type 0
SetupsAreToldOf = (share : ℕ → Share) → AreShares 2 share → SetupsAreTold share
