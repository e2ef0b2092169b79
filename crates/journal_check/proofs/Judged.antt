-- What a line's packet comes to.
use Rattle.std.proofs.Common.{◌≡◌, ◌≢◌, ℕ, List, [], Option, Some, None, IfSome, IfNone, refl, sym, ap, subst, ◌∙◌}
use Rattle.std.proofs.lemmas.Option.{same_Some, none-some}
use Rattle.nf_base.specs.declared.packet.Packet.{Packet}
use Rattle.nf_base.specs.declared.share.Share.{Share}
use Rattle.nf_base.specs.declared.state.State.{State}
use Rattle.nf_base.specs.declared.done.Done.{Done}
use Rattle.nf_base.specs.declared.done.Action.{Action}
use Rattle.nf_base.specs.Text.{Function}
use Rattle.nf_base.specs.Operations.{never}
use Rattle.nf_base.specs.Runs.{Handling}
use Rattle.nf_base.specs.Step.{StepResult, step, step_by}
use Rattle.nf_laws.proofs.Picked.{steps_pick}
use Rattle.nf_engine.specs.Stops.{full_stops}
use Rattle.shard_laws.specs.Rule.{AreOfQueue, KeepsToQueue}
use Rattle.run_history.specs.declared.line.Mode.{Mode}
use Rattle.run_history.specs.declared.line.Mode.TheVariants.{One, Shard, Lock}
use Rattle.run_history.specs.declared.line.JournalLine.{JournalLine}
use Rattle.run_history.specs.declared.line.JournalLine.TheVariants as line
use Rattle.run_history.specs.Headings.{Heading}
use Rattle.journal_check.specs.Judging.{IsRuled, Steps, line_of, worker_of}
use Rattle.journal_check.specs.Telling.{StepsWith, Replays, Goes, StepsSo, ComesTo}
use Rattle.journal_check.specs.Laws.{LinesTellSteps, QueuesAreShares}
use Rattle.journal_check.proofs.Granted.{granted_step, meets_none}

-- ---- without a rule

pub unruled_one : (mode : Mode) (workers queue : ℕ) (f : Function) (s : State) (h : Handling) → mode ≡ One → IsRuled mode workers queue f s h
unruled_one mode workers queue f s h is = subst (λ (m : Mode). IsRuled m workers queue f s h) (sym is) tt

pub unruled_lock : (mode : Mode) (workers queue : ℕ) (f : Function) (s : State) (h : Handling) → mode ≡ Lock → IsRuled mode workers queue f s h
unruled_lock mode workers queue f s h is = subst (λ (m : Mode). IsRuled m workers queue f s h) (sym is) tt

pub replays_plain : (f : Function) (h : Heading) (queue : ℕ) (s : State) (p : Packet) (picks : List ℕ) (state : State) (share : Share) (o : Option Done) → share.of ≡ 1 → ((choices : List ℕ) → IsRuled h.mode h.workers queue f s (record { packet = p; choices = choices }))
    → IfSome o (λ done. step f s p picks ≡ Some (record { state = state; done = done })) → IfNone o (share.of ≡ 1 → step f s p picks ≡ None) → Replays f h queue s p picks state o
replays_plain f h queue s p picks state share None whole ruled some none = λ next so. absurd (none-some _ (sym (none whole) ∙ ap (step f s p) (sym so.takes) ∙ so.steps.steps))
replays_plain f h queue s p picks state share (Some done) whole ruled some none =
    let takes = steps_pick never f s p picks (record { state = state; done = done }) some in
    record { steps = record { ruled = ruled done.picks; steps = ap (step f s p) takes ∙ some }; takes = takes }

-- ---- with the rule of shares

keeps_to : (mode : Mode) (workers queue : ℕ) (f : Function) (s : State) (h : Handling) → mode ≡ Shard → IsRuled mode workers queue f s h → KeepsToQueue workers queue f s h
keeps_to mode workers queue f s h is ruled = subst (λ (m : Mode). IsRuled m workers queue f s h) is ruled

pub replays_granted : (f : Function) (h : Heading) (queue : ℕ) (s : State) (p : Packet) (picks : List ℕ) (state : State) (o : Option Done) → h.mode ≡ Shard → AreOfQueue h.workers queue picks
    → IfSome o (λ done. step f s p picks ≡ Some (record { state = state; done = done })) → IfSome o (λ done. step_by full_stops f s p picks ≡ Some (record { state = state; done = done })) → IfNone o (step_by full_stops f s p picks ≡ None) → Replays f h queue s p picks state o
replays_granted f h queue s p picks state None mode own some granted none = λ next so.
    let kept = keeps_to h.mode h.workers queue f s (record { packet = p; choices = next.done.picks }) mode so.steps.ruled in
    let stepped = granted_step f s p next.done.picks next kept.granted so.steps.steps in
    absurd (none-some _ (sym none ∙ ap (step_by full_stops f s p) (sym so.takes) ∙ stepped))
replays_granted f h queue s p picks state (Some done) mode own some granted none =
    let takes = steps_pick never f s p picks (record { state = state; done = done }) some in
    let kept : KeepsToQueue h.workers queue f s (record { packet = p; choices = done.picks }) = record {
      own = subst (AreOfQueue h.workers queue) (sym takes) own;
      granted = meets_none f s p done.picks (record { state = state; done = done }) (ap (step_by full_stops f s p) takes ∙ granted);
    } in
    record {
      steps = record { ruled = subst (λ (m : Mode). IsRuled m h.workers queue f s (record { packet = p; choices = done.picks })) (sym mode) kept; steps = ap (step f s p) takes ∙ some };
      takes = takes;
    }

pub replays_foreign : (f : Function) (h : Heading) (queue : ℕ) (s : State) (p : Packet) (picks : List ℕ) (state : State) → h.mode ≡ Shard → (AreOfQueue h.workers queue picks → ⊥) → Replays f h queue s p picks state None
replays_foreign f h queue s p picks state mode foreign = λ next so.
    let kept = keeps_to h.mode h.workers queue f s (record { packet = p; choices = next.done.picks }) mode so.steps.ruled in
    foreign (subst (AreOfQueue h.workers queue) so.takes kept.own)

-- ---- the action

-- the step of choices is one
one_step : (f : Function) (h : Heading) (queue : ℕ) (s : State) (p : Packet) (picks : List ℕ) (a b : StepResult) → StepsWith f h queue s p picks a → StepsWith f h queue s p picks b → a ≡ b
one_step f h queue s p picks a b x y = same_Some _ _ (sym x.steps.steps ∙ ap (step f s p) (x.takes ∙ sym y.takes) ∙ y.steps.steps)

goes_same : (d e : Done) (action : Action) → d ≡ e → e.action ≡ action → d.action ≡ action
goes_same d e action same goes = ap (λ (x : Done). x.action) same ∙ goes

pub comes_to : (f : Function) (h : Heading) (queue : ℕ) (s : State) (p : Packet) (action : Action) (picks : List ℕ) (state : State) (o result : Option Done) → Replays f h queue s p picks state o → Goes o action result → ComesTo f h queue s p action picks state result
comes_to f h queue s p action picks state None None none goes = λ next so. none next so.with
comes_to f h queue s p action picks state None (Some d) none goes = absurd (none-some _ (sym goes))
comes_to f h queue s p action picks state (Some done) None with other = λ next so.
    let one = one_step f h queue s p picks (record { state = state; done = done }) next with so.with in
    other (ap (λ (n : StepResult). n.done.action) one ∙ so.goes)
comes_to f h queue s p action picks state (Some done) (Some d) with goes =
    subst (λ (x : Done). StepsSo f h queue s p action picks (record { state = state; done = x })) (sym goes.0) (record { with = with; goes = goes.1 })

-- ---- the line

abbrev is_told : Heading → ℕ → Packet → JournalLine → Action → List ℕ → Type 0
is_told h queue p l action picks = l ≡ line.Packet p.id (worker_of h queue p.id.port) action picks

abbrev picks_in : JournalLine → List ℕ
picks_in (line.Header heading) = []
picks_in (line.Packet id worker action picks) = picks

abbrev action_in : JournalLine → Action → Action
action_in (line.Header heading) other = other
action_in (line.Packet id worker action picks) other = action

-- what is said of a line
pub record IsAnswer (f : Function) (h : Heading) (queue : ℕ) (s : State) (p : Packet) (l : JournalLine) (state : State) (result : Option Done) : Type 0 where
  pub steps : IfSome result (λ done. Steps f h queue s p (record { state = state; done = done }))
  pub tells : IfSome result (λ done. l ≡ line_of h queue (record { packet = p; done = done }))
  pub none : IfNone result ((next : StepResult) → Steps f h queue s p next → l ≢ line_of h queue (record { packet = p; done = next.done }))

told_is : (h : Heading) (queue : ℕ) (p : Packet) (l : JournalLine) (action : Action) (picks : List ℕ) (done : Done) → is_told h queue p l action picks → done.action ≡ action → done.picks ≡ picks → l ≡ line_of h queue (record { packet = p; done = done })
told_is h queue p l action picks done told goes takes = told ∙ ap (λ (a : Action). line.Packet p.id (worker_of h queue p.id.port) a picks) (sym goes) ∙ ap (line.Packet p.id (worker_of h queue p.id.port) done.action) (sym takes)

pub answer : (f : Function) (h : Heading) (queue : ℕ) (s : State) (p : Packet) (l : JournalLine) (action : Action) (picks : List ℕ) (state : State) (result : Option Done) → is_told h queue p l action picks → ComesTo f h queue s p action picks state result → IsAnswer f h queue s p l state result
answer f h queue s p l action picks state None told none = record {
  steps = tt;
  tells = tt;
  none = λ next steps is. none next (record {
    with = record { steps = steps; takes = ap picks_in (sym is ∙ told) };
    goes = ap (λ (x : JournalLine). action_in x action) (sym is ∙ told);
  });
}
answer f h queue s p l action picks state (Some done) told so = record { steps = so.with.steps; tells = told_is h queue p l action picks done told so.goes so.with.takes; none = tt }

pub other_line : (f : Function) (h : Heading) (queue : ℕ) (s : State) (p : Packet) (l : JournalLine) (state : State) → ((action : Action) (picks : List ℕ) → l ≢ line.Packet p.id (worker_of h queue p.id.port) action picks) → IsAnswer f h queue s p l state None
other_line f h queue s p l state none = record { steps = tt; tells = tt; none = λ next steps is. none next.done.action next.done.picks is }

-- ---- laws

pub lines_tell : LinesTellSteps
lines_tell f h queue s p a b x y same =
    one_step f h queue s p b.done.picks a b (record { steps = x; takes = ap picks_in same }) (record { steps = y; takes = refl })

pub queues_shares : QueuesAreShares
queues_shares share f s h = ((λ k. record { own = k.own; granted = k.granted }), (λ k. record { own = k.own; granted = k.granted }))
