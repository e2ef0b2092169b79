-- What the run of a packet's handler is, as a step of its own share and as the undivided one.
use Rattle.std.proofs.Common.{◌≡◌, ℕ, false, List, Option, Some, None, refl, subst}
use Rattle.nf_base.specs.declared.packet.Packet.{Packet}
use Rattle.nf_base.specs.declared.share.Share.{Share}
use Rattle.nf_base.specs.declared.state.State.{State}
use Rattle.nf_base.specs.Course.{Completion}
use Rattle.nf_base.specs.Shares.{AreOwn, share_stops}
use Rattle.nf_base.specs.Step.{StepResult, step, step_by, step_result}
use Rattle.nf_base.specs.Text.{Function}
use Rattle.nf_engine.specs.declared.context.Context.{Context}
use Rattle.nf_engine.specs.declared.context.BlockResult.{BlockResult}
use Rattle.nf_engine.specs.declared.context.Outcome.{Outcome}
use Rattle.nf_engine.specs.Handlings.{Runs, StopsAt, completes_for, done_of, handled_of, IfDone, IfEnds, IfStops, outcome_of}
use Rattle.nf_engine.specs.Input.{Seen, packet_of}
use Rattle.nf_engine.proofs.Finishing.{if_done, if_ends, runs_own, stops_own}
use Rattle.nf_engine.proofs.Undivided.{undivided_step}

-- how the handler of a packet completes for its share, by the choices
abbrev pub meant : Share → Function → State → Seen → List ℕ → Completion
meant share f s seen = completes_for false share f s (packet_of seen) seen.fields

pub by_share : (to : BlockResult) (c : Context) (share : Share) (f : Function) (s new : State) (seen : Seen) → Runs to c false share None (meant share f s seen) new → IfEnds (outcome_of to) (λ a. step_by (share_stops share) f s (packet_of seen) c.picks ≡ Some (record { state = new; done = done_of a c }))
by_share to c share f s new seen runs =
    if_ends (λ a. (step_result c.picks (meant share f s seen c.picks) ≡ Some (record { state = new; done = done_of a c })) × AreOwn share c.picks)
    (λ a. step_by (share_stops share) f s (packet_of seen) c.picks ≡ Some (record { state = new; done = done_of a c }))
    (outcome_of to) (λ a x. x.0) (runs_own to c false share new (meant share f s seen) runs)

pub own_by : (to : BlockResult) (c : Context) (share : Share) (f : Function) (s new : State) (seen : Seen) → Runs to c false share None (meant share f s seen) new → IfEnds (outcome_of to) (λ a. AreOwn share c.picks)
own_by to c share f s new seen runs =
    if_ends (λ a. (step_result c.picks (meant share f s seen c.picks) ≡ Some (record { state = new; done = done_of a c })) × AreOwn share c.picks)
    (λ a. AreOwn share c.picks)
    (outcome_of to) (λ a x. x.1) (runs_own to c false share new (meant share f s seen) runs)

pub undivided_by : (to : BlockResult) (c : Context) (share : Share) (f : Function) (s new : State) (seen : Seen) → Runs to c false share None (meant share f s seen) new → IfEnds (outcome_of to) (λ a. step f s (packet_of seen) c.picks ≡ Some (record { state = new; done = done_of a c }))
undivided_by to c share f s new seen runs =
    if_ends (λ a. step_by (share_stops share) f s (packet_of seen) c.picks ≡ Some (record { state = new; done = done_of a c }))
    (λ a. step f s (packet_of seen) c.picks ≡ Some (record { state = new; done = done_of a c }))
    (outcome_of to) (λ a x. undivided_step (share_stops share) f s (packet_of seen) c.picks (record { state = new; done = done_of a c }) x) (by_share to c share f s new seen runs)

pub stop_by : (to : BlockResult) (c : Context) (share : Share) (f : Function) (s new : State) (seen : Seen) → Runs to c false share None (meant share f s seen) new → IfStops (outcome_of to) (λ chain. StopsAt share f s (packet_of seen) chain)
stop_by to c share f s new seen runs = stops_own to c share f s (packet_of seen) seen.fields new refl runs

-- a step of a packet, as all that is answered of it
pub done_with : (step_as : Packet → List ℕ → Option StepResult) (o : Outcome) (c : Context) (p packet : Packet) (new : State) → p ≡ packet → IfEnds o (λ a. step_as p c.picks ≡ Some (record { state = new; done = done_of a c })) → IfDone (handled_of o c) (λ done. step_as packet done.picks ≡ Some (record { state = new; done = done }))
done_with step_as o c p packet new is h =
    if_done (λ done. step_as packet done.picks ≡ Some (record { state = new; done = done })) o c
    (subst (λ (q : Packet). IfEnds o (λ a. step_as q c.picks ≡ Some (record { state = new; done = done_of a c }))) is h)
