-- What is answered of a whole packet.
use Rattle.std.specs.Prelude.{◌≡◌, ℕ, Bool, IsTrue, List, [], length, take, drop, Option, Some, None}
use Rattle.nf_base.specs.Doors.{handler_at}
use Rattle.nf_base.specs.Families.{door_of}
use Rattle.nf_base.specs.declared.packet.Packet.{Packet}
use Rattle.nf_base.specs.declared.packet.Fields.{Fields}
use Rattle.nf_base.specs.declared.share.Share.{Share}
use Rattle.nf_base.specs.declared.state.State.{State}
use Rattle.nf_base.specs.declared.done.Done as answered
use Rattle.nf_base.specs.declared.done.Action.{Action}
use Rattle.nf_base.specs.declared.done.Action.TheVariants as action
use Rattle.nf_base.specs.Course.{Completion, NoStep, StoppedAt}
use Rattle.nf_base.specs.Shares.{IsShareStop}
use Rattle.nf_base.specs.Step.{StepResult, step_result, if_none_left, completes}
use Rattle.nf_base.specs.Text.{Function}
use Rattle.nf_engine.specs.declared.context.Context.{Context}
use Rattle.nf_engine.specs.declared.context.BlockResult.{BlockResult}
use Rattle.nf_engine.specs.declared.context.BlockResult.TheVariants as went
use Rattle.nf_engine.specs.declared.context.Outcome.{Outcome}
use Rattle.nf_engine.specs.declared.context.Outcome.TheVariants as outcome
use Rattle.nf_engine.specs.declared.handling.Handled.{Handled}
use Rattle.nf_engine.specs.declared.handling.Handled.TheVariants.{Done, ShareFull}
use Rattle.nf_engine.specs.Stops.{may_stop, halts}
use Rattle.nf_engine.specs.Choices.{Choices, MayBe, AreGiven, are_own}

-- where a packet is done
abbrev pub IfDone : Handled → (answered.Done → Type 0) → Type 0
IfDone (Done done) P = P done
IfDone (ShareFull chain) P = Unit {0}

-- where its share stopped at a chain
abbrev pub IfShareFull : Handled → (ℕ → Type 0) → Type 0
IfShareFull (Done done) P = Unit {0}
IfShareFull (ShareFull chain) P = P chain

-- with some own choices a packet comes to a share stop at this chain
pub record StopsAt (share : Share) (f : Function) (s : State) (packet : Packet) (chain : ℕ)
    : Type 0 where
  pub fields : Fields
  pub choices : List ℕ
  pub stop : IsShareStop share f s packet fields choices chain

-- how the handler of a packet completes for a share, by the choices
abbrev pub completes_for : Bool → Share → Function → State → Packet → Fields → List ℕ → Completion
completes_for strict share f s packet fields choices =
    completes (halts strict share) f s packet.time fields choices
    (handler_at f (door_of packet.id.port fields))

-- the step of a handler that came to this answer and this state, where these choices are left
abbrev pub finished : List ℕ → List ℕ → State → answered.Done → Option StepResult
finished all left s done =
    if_none_left all left
    (record { state = s; vars = []; edits = done.edits; left = left })
    done.action

-- a handler that ends with all that follows some own choices
pub record Finishes (share : Share) (all : List ℕ) (done : answered.Done) (s : State)
    (meant : Completion) : Type 0 where
  pub own : IsTrue (are_own share (take (length done.picks) all))
  pub step : step_result all meant ≡ finished all (drop (length done.picks) all) s done

-- a handler that stops for its share behind some own choices
pub record Stops (share : Share) (all taken : List ℕ) (chain : ℕ) (meant : Completion)
    : Type 0 where
  pub own : IsTrue (are_own share (take (length taken) all))
  pub stops : meant ≡ StoppedAt chain (drop (length taken) all)

-- what a packet came to whose handler left this context
abbrev pub done_of : Action → Context → answered.Done
done_of a c = record { action = a; edits = c.edits; picks = c.picks }

-- a handler that ends so, by all the choices that it may have
abbrev pub EndsSo : Action → Context → Share → Choices → (List ℕ → Completion) → State → Type 0
EndsSo a c share choices meant s =
    (all : List ℕ) → MayBe choices c.picks all → Finishes share all (done_of a c) s (meant all)

-- what the run of a packet's handler comes to, by all the choices that it may have
abbrev pub Runs :
    BlockResult → Context → Bool → Share → Choices → (List ℕ → Completion) → State → Type 0
Runs went.Falls c strict share choices meant s = EndsSo action.Drop c share choices meant s
Runs went.Drop c strict share choices meant s = EndsSo action.Drop c share choices meant s
Runs went.Flood c strict share choices meant s = EndsSo action.Flood c share choices meant s
Runs (went.To port) c strict share choices meant s =
    EndsSo (action.To port) c share choices meant s
Runs (went.ShareFull chain) c strict share choices meant s =
    IsTrue (may_stop strict share)
    × ((all : List ℕ) → MayBe choices c.picks all → Stops share all c.picks chain (meant all))
Runs went.BadChoice c strict share choices meant s =
    AreGiven choices
    × ((all : List ℕ) → MayBe choices c.picks all → IsTrue (are_own share all) → meant all ≡ NoStep)

-- the action of a handler that came to its end
abbrev pub end_of : BlockResult → Option Action
end_of went.Falls = Some action.Drop
end_of went.Drop = Some action.Drop
end_of went.Flood = Some action.Flood
end_of (went.To port) = Some (action.To port)
end_of (went.ShareFull chain) = None
end_of went.BadChoice = None

-- no choice was given
abbrev pub IsChosen : BlockResult → Type 0
IsChosen went.Falls = Unit {0}
IsChosen went.Drop = Unit {0}
IsChosen went.Flood = Unit {0}
IsChosen (went.To port) = Unit {0}
IsChosen (went.ShareFull chain) = Unit {0}
IsChosen went.BadChoice = ⊥

-- what a handler comes to that was not given choices
abbrev pub outcome_of : BlockResult → Outcome
outcome_of went.Falls = outcome.Drop
outcome_of went.Drop = outcome.Drop
outcome_of went.Flood = outcome.Flood
outcome_of (went.To port) = outcome.To port
outcome_of (went.ShareFull chain) = outcome.ShareFull chain
outcome_of went.BadChoice = outcome.Drop

-- where a packet ends with an action
abbrev pub IfEnds : Outcome → (Action → Type 0) → Type 0
IfEnds outcome.Drop P = P action.Drop
IfEnds outcome.Flood P = P action.Flood
IfEnds (outcome.To port) P = P (action.To port)
IfEnds (outcome.ShareFull chain) P = Unit {0}

-- where its share stops at a chain
abbrev pub IfStops : Outcome → (ℕ → Type 0) → Type 0
IfStops outcome.Drop P = Unit {0}
IfStops outcome.Flood P = Unit {0}
IfStops (outcome.To port) P = Unit {0}
IfStops (outcome.ShareFull chain) P = P chain

-- the same with all that its context holds
abbrev pub handled_of : Outcome → Context → Handled
handled_of outcome.Drop c = Done (done_of action.Drop c)
handled_of outcome.Flood c = Done (done_of action.Flood c)
handled_of (outcome.To port) c = Done (done_of (action.To port) c)
handled_of (outcome.ShareFull chain) c = ShareFull chain
