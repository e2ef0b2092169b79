-- What a line tells of a packet, and whether the packet comes to it.
use Rattle.std.specs.Prelude.{◌≡◌, ◌≢◌, ℕ, List, Option, Some, None}
use denote.Ref.{Bor}
use Rattle.nf_base.specs.declared.packet.PacketId.{PacketId}
use Rattle.nf_base.specs.declared.done.Action.{Action}
use Rattle.nf_base.specs.declared.packet.Packet.{Packet}
use Rattle.nf_base.specs.declared.state.State.{State}
use Rattle.nf_base.specs.declared.done.Done.{Done}
use Rattle.nf_base.specs.Text.{Function}
use Rattle.nf_base.specs.Step.{StepResult}
use Rattle.run_history.specs.Headings.{Heading}
use Rattle.run_history.specs.declared.line.JournalLine.{JournalLine}
use Rattle.run_history.specs.declared.line.JournalLine.TheVariants as line
use Rattle.journal_check.specs.Judging.{Steps}

-- an action and choices of this packet, handled by this worker; or the line is another
abbrev pub Tells : PacketId → ℕ → JournalLine → Option (Action × Bor (List ℕ)) → Type 0
Tells id worker l None = (action : Action) (picks : List ℕ) → l ≢ line.Packet id worker action picks
Tells id worker l (Some t) = l ≡ line.Packet id worker t.0 t.1.now

-- a packet has its step with these choices
pub record StepsWith (f : Function) (heading : Heading) (queue : ℕ) (s : State) (p : Packet) (picks : List ℕ) (next : StepResult) : Type 0 where
  pub steps : Steps f heading queue s p next
  pub takes : next.done.picks ≡ picks

-- it has one, which leaves this state; or it has none
abbrev pub Replays : Function → Heading → ℕ → State → Packet → List ℕ → State → Option Done → Type 0
Replays f heading queue s p picks state None = (next : StepResult) → StepsWith f heading queue s p picks next → ⊥
Replays f heading queue s p picks state (Some done) = StepsWith f heading queue s p picks (record { state = state; done = done })

-- an answer that has this action; or there is none
abbrev pub Goes : Option Done → Action → Option Done → Type 0
Goes None action result = result ≡ None
Goes (Some done) action None = done.action ≢ action
Goes (Some done) action (Some same) = (same ≡ done) × (done.action ≡ action)

-- the same with an action
pub record StepsSo (f : Function) (heading : Heading) (queue : ℕ) (s : State) (p : Packet) (action : Action) (picks : List ℕ) (next : StepResult) : Type 0 where
  pub with : StepsWith f heading queue s p picks next
  pub goes : next.done.action ≡ action

abbrev pub ComesTo : Function → Heading → ℕ → State → Packet → Action → List ℕ → State → Option Done → Type 0
ComesTo f heading queue s p action picks state None = (next : StepResult) → StepsSo f heading queue s p action picks next → ⊥
ComesTo f heading queue s p action picks state (Some done) = StepsSo f heading queue s p action picks (record { state = state; done = done })
