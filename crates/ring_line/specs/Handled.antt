-- What a worker comes to with packets of its queue.
use Rattle.std.specs.Prelude.{◌≡◌, ◌<◌, ℕ, suc, List, [], ◌∷◌, ◌++◌, length, Option, Some, None}
use Rattle.nf_base.specs.declared.func.Func.{Func}
use Rattle.nf_base.specs.declared.packet.Packet.{Packet}
use Rattle.nf_base.specs.declared.done.Done as done
use Rattle.nf_base.specs.declared.share.Share.{Share}
use Rattle.nf_base.specs.declared.state.State.{State}
use Rattle.nf_base.specs.Doors.{IsServed}
use Rattle.nf_base.specs.Functions.{function_of}
use Rattle.nf_base.specs.Shares.{share_stops, AreOwn}
use Rattle.nf_base.specs.Step.{step_by}
use Rattle.nf_base.specs.Text.{Function}
use Rattle.nf_engine.specs.Handlings.{StopsAt}
use Rattle.nf_engine.specs.declared.handling.Handled.{Handled}
use Rattle.nf_engine.specs.declared.handling.Handled.TheVariants.{Done, ShareFull}
use Rattle.shard_machine.specs.declared.event.Answer.{Answer}
use Rattle.shard_machine.specs.declared.event.Worked.{Worked}
use Rattle.shard_machine.specs.Machine.{Worker, packets_of}
use Rattle.shard_machine.specs.Events.{Works}
use Rattle.ring_line.specs.declared.halt.Halt.{Halt}

-- a packet came in at a port of a function that has a handler for it
pub record CanServe (func : Func) (packet : Packet) : Type 0 where
  pub port : packet.id.port < length func.handlers
  pub served : IsServed (function_of func) packet

-- one packet is handled by the step of a share, with choices of its own, or its share ends there
abbrev pub HandledBy : Function → Share → State → Packet → Handled → State → Type 0
HandledBy f share s packet (Done done) t =
    AreOwn share done.picks
    × (step_by (share_stops share) f s packet done.picks
    ≡ Some (record { state = t; done = done }))
HandledBy f share s packet (ShareFull chain) t = StopsAt share f s packet chain

-- packets are handled so, one after another
pub data Handles (f : Function) (share : Share) (first : State) : List Answer → State → Type 0 where
  none_yet : Handles f share first [] first
  one_more : (before : List Answer) (s t : State) (packet : Packet) (done : done.Done) →
      Handles f share first before s → AreOwn share done.picks →
      step_by (share_stops share) f s packet done.picks
      ≡ Some (record { state = t; done = done }) →
      Handles f share first (before ++ record { packet = packet; done = done } ∷ []) t

-- the first of some packets are handled, and at the next one the share ends
pub record EndsAt (f : Function) (share : Share) (first : State) (packets : List Packet)
    (answers : List Answer) (halt : Halt) : Type 0 where
  pub state : State
  pub handles : Handles f share first answers state
  pub later : List Packet
  pub packets_are : packets ≡ packets_of answers ++ halt.packet ∷ later
  pub stops : StopsAt share f state halt.packet halt.chain

-- all of some packets are handled, in order; or the first of them are, up to the share's end
abbrev pub CameTo :
    Function → Share → State → List Packet → List Answer → Option Halt → State → Type 0
CameTo f share first packets answers None state =
    Handles f share first answers state × (packets_of answers ≡ packets)
CameTo f share first packets answers (Some halt) state = EndsAt f share first packets answers halt

-- a worker of the machine works so many times
pub data WorkedTimes (f : Function) (share : Share) (first : Worker) : ℕ → Worker → Type 0 where
  begins : WorkedTimes f share first 0 first
  goes_on : (n : ℕ) (came : Worked) (before after : Worker) →
      WorkedTimes f share first n before → Works f share came before after →
      WorkedTimes f share first (suc n) after

-- it has worked all and has this state, or it has stopped at this packet
abbrev pub IsAt : Option Halt → State → Worker → Type 0
IsAt None state worker =
    (worker.stopped ≡ None) × (worker.waiting ≡ []) × (worker.state ≡ state)
IsAt (Some halt) state worker =
    (worker.stopped ≡ Some halt.chain)
    × ((later : List Packet) × (worker.waiting ≡ halt.packet ∷ later))

-- what the machine's worker is then, where it had these packets
pub record WorkedThrough (f : Function) (share : Share) (first : State) (packets : List Packet)
    (answers : List Answer) (halt : Option Halt) (state : State) : Type 0 where
  pub count : ℕ
  pub worker : Worker
  pub times :
      WorkedTimes f share
      (record { worked = []; waiting = packets; state = first; stopped = None }) count worker
  pub worked : worker.worked ≡ answers
  pub ends : IsAt halt state worker

-- what a worker came to is what the machine's worker comes to
abbrev pub HandlingIsWork : Type 0
HandlingIsWork =
    (f : Function) (share : Share) (first : State) (packets : List Packet)
    (answers : List Answer) (halt : Option Halt) (state : State) →
    CameTo f share first packets answers halt state →
    WorkedThrough f share first packets answers halt state
