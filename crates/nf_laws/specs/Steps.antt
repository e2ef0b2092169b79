-- A packet's step, and the record of it.
use Rattle.std.specs.Prelude.{◌≡◌, ◌<◌, ◌≤◌, ℕ, true, List, [], length, Some, None, IsSome}
use Rattle.nf_base.specs.Doors.{handler_at}
use Rattle.nf_base.specs.Families.{door_of}
use Rattle.nf_base.specs.declared.packet.Packet.{Packet}
use Rattle.nf_base.specs.declared.packet.Fields.{Fields}
use Rattle.nf_base.specs.declared.state.State.{State}
use Rattle.nf_base.specs.declared.done.Action.TheVariants.{Skip}
use Rattle.nf_base.specs.Text.{Function}
use Rattle.nf_base.specs.Operations.{Stops}
use Rattle.nf_base.specs.Events.{Event}
use Rattle.nf_base.specs.Record.{is_legal, indices_made}
use Rattle.nf_base.specs.Step.{StepResult, no_edits, step, step_by, recorded}
use Rattle.nf_base.specs.Locations.{Numbers, locations, all_numbers}

-- a packet that is skipped, or for which its port has a handler
pub data HasHandler (f : Function) (packet : Packet) : Type 0 where
  skips : packet.fields ≡ None → HasHandler f packet
  handles : (fields : Fields) → packet.fields ≡ Some fields →
      IsSome (handler_at f (door_of packet.id.port fields)) → HasHandler f packet

-- a record in which each `new` got an answer, with entries made at these indices
pub record IsLegalRecord (es : List Event) (choices : List ℕ) : Type 0 where
  pub legal : is_legal es ≡ true
  pub made : indices_made es ≡ choices

-- where a packet has a step, its record is legal, and its choices are the indices of the entries
-- made
abbrev pub StepsAreLegal : Type 0
StepsAreLegal = (f : Function) (s : State) (packet : Packet) (choices : List ℕ) (r : StepResult) →
    step f s packet choices ≡ Some r → IsLegalRecord (recorded f s packet choices) choices

-- and where its record is, it has a step
abbrev pub LegalStepsAre : Type 0
LegalStepsAre = (f : Function) (s : State) (packet : Packet) (choices : List ℕ) →
    HasHandler f packet → IsLegalRecord (recorded f s packet choices) choices →
    (r : StepResult) × (step f s packet choices ≡ Some r)

-- at another port no packet is handled
abbrev pub OtherPortsHaveNone : Type 0
OtherPortsHaveNone =
    (f : Function) (s : State) (packet : Packet) (fields : Fields) (choices : List ℕ) →
    packet.fields ≡ Some fields → length f.handlers ≤ packet.id.port →
    step f s packet choices ≡ None

-- at every state some choices give a packet of one of the function's ports a step
abbrev pub SomeChoicesAreLegal : Type 0
SomeChoicesAreLegal = (f : Function) (s : State) (packet : Packet) → HasHandler f packet →
    (choices : List ℕ) × ((r : StepResult) × (step f s packet choices ≡ Some r))

-- a step picks the choices that it was given, undivided or a share's
abbrev pub StepsPickTheirChoices : Type 0
StepsPickTheirChoices =
    (stops : Stops) (f : Function) (s : State) (packet : Packet) (choices : List ℕ)
    (r : StepResult) →
    step_by stops f s packet choices ≡ Some r → r.done.picks ≡ choices

-- by its choices a packet has one step at most
abbrev pub OneStepAtMost : Type 0
OneStepAtMost = (f : Function) (s : State) (packet : Packet) (choices : List ℕ) (a b : StepResult) →
    step f s packet choices ≡ Some a → step f s packet choices ≡ Some b → a ≡ b

-- a step with no choices and with no others: the state stays, nothing is touched, and no entry is
-- numbered
pub record IsNothing (f : Function) (s : State) (packet : Packet) : Type 0 where
  pub one : step f s packet []
      ≡ Some (record { state = s; done = record { action = Skip; edits = no_edits; picks = [] } })
  pub only : (choices : List ℕ) (r : StepResult) → step f s packet choices ≡ Some r → choices ≡ []
  pub untouched : (ns : Numbers) (choices : List ℕ) →
      locations f.chains ns (recorded f s packet choices) ≡ []
  pub unnumbered : (ns : Numbers) (choices : List ℕ) →
      all_numbers ns (recorded f s packet choices) ≡ ns

-- a packet whose fields are not known is skipped
abbrev pub SkippedIsNothing : Type 0
SkippedIsNothing = (f : Function) (s : State) (packet : Packet) → packet.fields ≡ None →
    IsNothing f s packet
