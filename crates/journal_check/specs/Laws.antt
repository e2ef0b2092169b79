-- Laws of right lines.
use Rattle.std.specs.Prelude.{◌≡◌, ℕ, List, [], ◌∷◌}
use Rattle.nf_base.specs.declared.packet.Packet.{Packet}
use Rattle.nf_base.specs.declared.share.Share.{Share}
use Rattle.nf_base.specs.declared.state.State.{State}
use Rattle.nf_base.specs.Text.{Function}
use Rattle.nf_base.specs.Runs.{Handling}
use Rattle.nf_base.specs.Step.{StepResult, opening}
use Rattle.run_history.specs.declared.line.JournalLine.TheVariants as line
use Rattle.nf_base.specs.declared.done.Done.{Done}
use Rattle.nf_base.specs.declared.done.Action.TheVariants.{To}
use Rattle.nf_base.specs.Step.{no_edits}
use Rattle.nf_laws.specs.Samples.{frame, packet_at}
use Rattle.nf_laws.specs.Firewall.{firewall, with_flow}
use Rattle.run_history.specs.declared.line.Mode.TheVariants.{One}
use Rattle.nf_base.specs.Cards.{usual_card}
use Rattle.run_history.specs.Headings.{Heading}
use Rattle.shard_laws.specs.Rule.{KeepsRule, KeepsToQueue}
use Rattle.journal_check.specs.Judging.{Steps, line_of}

-- A line and its packet determine the step: the state that is left, and the answer.
abbrev pub LinesTellSteps : Type 0
LinesTellSteps = (f : Function) (heading : Heading) (queue : ℕ) (s : State) (p : Packet) (a b : StepResult) →
    Steps f heading queue s p a → Steps f heading queue s p b →
    line_of heading queue (record { packet = p; done = a.done }) ≡ line_of heading queue (record { packet = p; done = b.done }) → a ≡ b

-- the rule of a queue's share is that of its lines, both ways
abbrev pub QueuesAreShares : Type 0
QueuesAreShares = (share : Share) (f : Function) (s : State) (h : Handling) →
    (KeepsRule share f s h → KeepsToQueue share.of share.queue f s h) × (KeepsToQueue share.of share.queue f s h → KeepsRule share f s h)

-- ---- a firewall for one flow

abbrev pub alone : Heading
alone = record { mode = One; workers = 1; card = usual_card }

-- one packet out, and its answer
abbrev pub outbound : Packet
outbound = packet_at 0 0 1 (frame 167772161 1000 167772162 80)

abbrev pub inbound : Packet
inbound = packet_at 1 0 5 (frame 167772162 80 167772161 1000)

abbrev pub sent_to : ℕ → List ℕ → Done
sent_to port picks = record { action = To port; edits = no_edits; picks = picks }

-- Both are forwarded to the other side, and their lines are `0 0 0 to:1 0` and `1 0 0 to:0 -`.
pub record FirewallLines : Type 0 where
  pub middle : State
  pub first : Steps (firewall 1) alone 0 (opening (firewall 1)) outbound (record { state = middle; done = sent_to 1 (0 ∷ []) })
  pub second : Steps (firewall 1) alone 0 middle inbound (record { state = with_flow 5; done = sent_to 0 [] })
  pub first_line : line_of alone 0 (record { packet = outbound; done = sent_to 1 (0 ∷ []) }) ≡ line.Packet (record { port = 0; seq = 0 }) 0 (To 1) (0 ∷ [])
  pub second_line : line_of alone 0 (record { packet = inbound; done = sent_to 0 [] }) ≡ line.Packet (record { port = 1; seq = 0 }) 0 (To 0) []
