-- What is answered of a packet that is handled without a write.
use Rattle.std.specs.Prelude.{◌≡◌, ℕ, List, [], Some, true, false}
use Rattle.nf_base.specs.Text.{Function}
use Rattle.nf_base.specs.Step.{StepResult, step, quiet}
use Rattle.nf_base.specs.declared.packet.Packet.{Packet}
use Rattle.nf_base.specs.declared.state.State.{State}
use Rattle.nf_base.specs.declared.done.Done as answered
use Rattle.nf_engine.specs.declared.context.Look.{Look}
use Rattle.nf_engine.specs.declared.context.Look.TheVariants.{Done, NeedsWrite}

-- where a packet is done
abbrev pub IfDone : Look → (answered.Done → Type 0) → Type 0
IfDone (Done done) P = P done
IfDone NeedsWrite P = Unit {0}

-- where something would be written
abbrev pub IfNeedsWrite : Look → Type 0 → Type 0
IfNeedsWrite (Done done) P = Unit {0}
IfNeedsWrite NeedsWrite P = P

-- The step of a packet is quiet whatever the choices: it takes none, and leaves the state.
pub record IsQuietStep (f : Function) (s : State) (packet : Packet) (done : answered.Done)
    : Type 0 where
  pub step_is : step f s packet [] ≡ Some (record { state = s; done = done })
  pub quiet_is : quiet f s packet [] ≡ Some true
  pub only : (choices : List ℕ) (r : StepResult) → step f s packet choices ≡ Some r → choices ≡ []

-- with every choices that are legal the step is not quiet
abbrev pub AlwaysWrites : Function → State → Packet → Type 0
AlwaysWrites f s packet =
    (choices : List ℕ) (r : StepResult)
    → step f s packet choices ≡ Some r → quiet f s packet choices ≡ Some false
