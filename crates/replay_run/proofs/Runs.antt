-- Runs, and one packet more.
use Rattle.std.proofs.Common.{◌≡◌, ◌≢◌, ℕ, ◌<◌, List, [], ◌∷◌, ◌++◌, length, Option, Some, None, Bor, refl, sym, ap, ◌∙◌, subst, append_assoc, arith}
use Rattle.std.proofs.lemmas.List.{map-append, length-append, append_cancel_left}
use Rattle.nf_base.specs.declared.keys.Keys.{Keys}
use Rattle.nf_base.specs.declared.packet.Packet.{Packet}
use Rattle.nf_base.specs.declared.done.Done.{Done}
use Rattle.nf_base.specs.declared.state.State.{State}
use Rattle.nf_base.specs.Text.{Function}
use Rattle.nf_base.specs.Runs.{Handling}
use Rattle.nf_base.specs.Step.{StepResult, opening}
use Rattle.packet_feed.specs.Arrivals.{Arrival}
use Rattle.run_history.specs.Headings.{Heading, IsHeading}
use Rattle.run_history.specs.declared.line.Mode.{Mode}
use Rattle.run_history.specs.declared.line.Mode.TheVariants.{One, Shard, Lock}
use Rattle.run_history.specs.declared.line.JournalLine.{JournalLine}
use Rattle.run_history.specs.declared.line.JournalLine.TheVariants as line
use Rattle.journal_check.specs.Judging.{IsRuled, Steps, worker_by, worker_of}
use Rattle.journal_check.specs.Judging as judging
use Rattle.stream_run.specs.Runs.{Handled}
use Rattle.stream_run.specs.Rules.{KeepsBy, rule_in}
use Rattle.stream_run.specs.Streaming.{handling_in, result_in}
use Rattle.stream_run.specs.Writing.{came_to}
use Rattle.stream_run.proofs.Ruled.{goes_on as goes_by}
use Rattle.replay_run.specs.Queues.{queue_in, keys_in, IsKeyed}
use Rattle.replay_run.specs.Replaying.{line_in, journal_lines, IsRun}

-- ---- what a judge asks for is the rule's

worker_is : (mode : Mode) (workers : ℕ) (keys : Option (Bor Keys)) (p : Packet) → IsKeyed mode keys → worker_by mode workers (queue_in keys workers p) p.id.port ≡ (rule_in mode workers (keys_in keys)).worker_of p
worker_is One workers keys p keyed = refl
worker_is Shard workers None p keyed = absurd keyed
worker_is Shard workers (Some keys) p keyed = refl
worker_is Lock workers keys p keyed = refl

to_rule : (mode : Mode) (workers : ℕ) (keys : Option (Bor Keys)) (f : Function) (s : State) (h : Handling) → IsKeyed mode keys → IsRuled mode workers (queue_in keys workers h.packet) f s h → KeepsBy (rule_in mode workers (keys_in keys)) f s h
to_rule One workers keys f s h keyed k = tt
to_rule Shard workers None f s h keyed k = absurd keyed
to_rule Shard workers (Some keys) f s h keyed k = k
to_rule Lock workers keys f s h keyed k = tt

of_rule : (mode : Mode) (workers : ℕ) (keys : Option (Bor Keys)) (f : Function) (s : State) (h : Handling) → IsKeyed mode keys → KeepsBy (rule_in mode workers (keys_in keys)) f s h → IsRuled mode workers (queue_in keys workers h.packet) f s h
of_rule One workers keys f s h keyed k = tt
of_rule Shard workers None f s h keyed k = absurd keyed
of_rule Shard workers (Some keys) f s h keyed k = k
of_rule Lock workers keys f s h keyed k = tt

-- ---- a line's packet goes on

-- a packet that was handled, by its worker, with its frame
abbrev pub handled_so : Heading → Option (Bor Keys) → Packet → ℕ → List ℕ → Done → Handled
handled_so heading keys p original frame done = came_to (worker_of heading (queue_in keys heading.workers p) p.id.port) p original frame done

pub goes_on : (f : Function) (keys : Option (Bor Keys)) (heading : Heading) (hs : List Handled) (old new : State) (p : Packet) (original : ℕ) (frame : List ℕ) (done : Done) → 0 < heading.workers → IsKeyed heading.mode keys
    → Steps f heading (queue_in keys heading.workers p) old p (record { state = new; done = done }) → IsRun f (keys_in keys) heading hs old → IsRun f (keys_in keys) heading (hs ++ handled_so heading keys p original frame done ∷ []) new
goes_on f keys heading hs old new p original frame done some keyed steps r =
    (goes_by (rule_in heading.mode heading.workers (keys_in keys)) f hs (handled_so heading keys p original frame done) old new r).1
    (record {
      own = worker_is heading.mode heading.workers keys p keyed;
      steps = steps.steps;
      kept = to_rule heading.mode heading.workers keys f old (record { packet = p; choices = done.picks }) keyed steps.ruled;
    })

-- what one packet more of a run is: it has its step, and its line is told by that
pub record IsLastOf (f : Function) (heading : Heading) (queue : ℕ) (old : State) (h : Handled) : Type 0 where
  pub next : StepResult
  pub steps : Steps f heading queue old h.arrival.packet next
  pub told : line_in h ≡ judging.line_of heading queue (record { packet = h.arrival.packet; done = next.done })

pub last_goes : (f : Function) (keys : Option (Bor Keys)) (heading : Heading) (hs : List Handled) (h : Handled) (old s : State) → 0 < heading.workers → IsKeyed heading.mode keys → IsRun f (keys_in keys) heading hs old → IsRun f (keys_in keys) heading (hs ++ h ∷ []) s
    → IsLastOf f heading (queue_in keys heading.workers h.arrival.packet) old h
last_goes f keys heading hs h old s some keyed r more =
    let n = (goes_by (rule_in heading.mode heading.workers (keys_in keys)) f hs h old s r).0 more in
    record {
      next = record { state = s; done = h.done };
      steps = record { ruled = of_rule heading.mode heading.workers keys f old (handling_in h) keyed n.kept; steps = n.steps };
      told = ap (λ (w : ℕ). line.Packet h.arrival.packet.id w h.done.action h.done.picks) (n.own ∙ sym (worker_is heading.mode heading.workers keys h.arrival.packet keyed));
    }

-- the packet that comes next has no such line
pub no_next : (f : Function) (keys : Option (Bor Keys)) (heading : Heading) (hs : List Handled) (old : State) (p : Packet) (l : JournalLine) → 0 < heading.workers → IsKeyed heading.mode keys → IsRun f (keys_in keys) heading hs old
    → ((next : StepResult) → Steps f heading (queue_in keys heading.workers p) old p next → l ≢ judging.line_of heading (queue_in keys heading.workers p) (record { packet = p; done = next.done }))
    → (h : Handled) (s : State) → h.arrival.packet ≡ p → line_in h ≡ l → IsRun f (keys_in keys) heading (hs ++ h ∷ []) s → ⊥
no_next f keys heading hs old p l some keyed r none h s same told more =
    let last = last_goes f keys heading hs h old s some keyed r more in
    let at : (next : StepResult) → Steps f heading (queue_in keys heading.workers h.arrival.packet) old h.arrival.packet next → l ≢ judging.line_of heading (queue_in keys heading.workers h.arrival.packet) (record { packet = h.arrival.packet; done = next.done }) =
    subst (λ (q : Packet). (next : StepResult) → Steps f heading (queue_in keys heading.workers q) old q next → l ≢ judging.line_of heading (queue_in keys heading.workers q) (record { packet = q; done = next.done })) (sym same) none in
    at last.next last.steps (sym told ∙ last.told)

-- before the first packet
pub begins_so : (f : Function) (keys : Option (Bor Keys)) (heading : Heading) (state : State) → IsHeading heading → 0 < heading.workers → IsKeyed heading.mode keys → state ≡ opening f → IsRun f (keys_in keys) heading [] state
begins_so f keys heading state is some keyed opens = record { undivided = ap (λ (s : State). Some (result_in [] s)) (sym opens); own = tt; kept = tt }

-- ---- which packet comes next

-- the first packets and one more of a list, and the same with another behind them
pub same_next : (all given later others : List Arrival) (a b : Arrival) → all ≡ given ++ a ∷ later → all ≡ (given ++ b ∷ []) ++ others → b ≡ a
same_next all given later others a b e q =
    let both : a ∷ later ≡ b ∷ others = append_cancel_left given (a ∷ later) (b ∷ others) (sym e ∙ q ∙ append_assoc given (b ∷ []) others) in
    cc

-- none comes where all were given
pub none_next : (all given others : List Arrival) (b : Arrival) → all ≡ given → all ≡ (given ++ b ∷ []) ++ others → ⊥
none_next all given others b e q =
    omega (arith, ap (λ (xs : List Arrival). length xs) (sym e ∙ q), length-append (given ++ b ∷ []) others, length-append given (b ∷ []))

-- a longer journal's lines
pub lines_more : (heading : Heading) (hs : List Handled) (h : Handled) → journal_lines heading (hs ++ h ∷ []) ≡ journal_lines heading hs ++ line_in h ∷ []
lines_more heading hs h = ap (λ (ls : List JournalLine). line.Header heading ∷ ls) (map-append line_in hs (h ∷ []))
