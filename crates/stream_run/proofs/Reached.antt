-- A run that goes on packet by packet: what was reached, and where it stops.
use Rattle.std.proofs.Common.{◌≡◌, ℕ, ◌+◌, ◌≤◌, ◌<◌, Bool, List, [], ◌∷◌, ◌++◌, length, map, Option, Some, None, Ok, Err, option_and_then, refl, sym, ap, ◌∙◌, subst, arith}
use Rattle.std.specs.List.{AllByRecursion}
use Rattle.std.proofs.lemmas.List.{map-append, length-map, length-append}
use Rattle.std.proofs.lemmas.Option.{same_Some}
use Rattle.nf_base.specs.Text.{Function}
use Rattle.nf_base.specs.Step.{StepResult, step, opening}
use Rattle.nf_base.specs.Runs.{Handling, RunResult, run, with_answer}
use Rattle.nf_base.specs.declared.card.Card.{Card}
use Rattle.capture_format.specs.declared.format.CaptureFormat.{CaptureFormat}
use Rattle.nf_base.specs.declared.packet.Packet.{Packet}
use Rattle.nf_base.specs.declared.done.Done.{Done}
use Rattle.nf_base.specs.declared.state.State.{State}
use Rattle.nf_files.specs.Told.{Told}
use Rattle.packet_feed.specs.Arrivals.{Arrival}
use Rattle.packet_feed.specs.Order.{in_order}
use Rattle.packet_feed.specs.Told.{packets_of}
use Rattle.packet_feed.specs.Sources.{files_in, sixes_in, all_left, Follows}
use Rattle.packet_feed.specs.Feeding.{Feeding, StandsFor, AreAll, AreTorn, HasMore, shown, frame_of, original_of}
use Rattle.packet_feed.proofs.Standing.{stands_kept}
use Rattle.run_history.specs.declared.line.Mode.TheVariants.{One}
use Rattle.stream_run.specs.declared.fault.RunFault.{RunFault}
use Rattle.stream_run.specs.declared.ending.Ending.TheVariants.{All, TooMany}
use Rattle.stream_run.specs.Runs.{Handled}
use Rattle.stream_run.specs.Texts.{bytes_of}
use Rattle.stream_run.specs.Writing.{Holding, Holds, IsFrontIfTold, came_to, files_of, AreHeld}
use Rattle.stream_run.specs.Streaming.{arrival_of, handling_in, result_in, IsUndivided, HandlesOne, Reaches, Halts, Ends, AreFirst}
use Rattle.stream_run.proofs.Held.{front_all, stays_in}

-- ---- one packet more

-- what a run came to, with one packet more
abbrev one_more : RunResult → StepResult → RunResult
one_more r next = record { state = next.state; answers = r.answers ++ next.done ∷ [] }

-- a run that goes on with one packet more, behind a packet with this step
abbrev GoesOn : Function → List Handling → Handling → StepResult → StepResult → Type 0
GoesOn f hs h next n = (x : RunResult) → run f n.state hs ≡ Some x → step f x.state h.packet h.choices ≡ Some next → run f n.state (hs ++ h ∷ []) ≡ Some (one_more x next)

behind_answer : (f : Function) (hs : List Handling) (h : Handling) (r : RunResult) (next n : StepResult) (o : Option RunResult) → GoesOn f hs h next n → step f r.state h.packet h.choices ≡ Some next → run f n.state hs ≡ o → with_answer n.done o ≡ Some r → with_answer n.done (run f n.state (hs ++ h ∷ [])) ≡ Some (one_more r next)
behind_answer f hs h r next n None more steps e q = cc
behind_answer f hs h r next n (Some x) more steps e q =
    let is : record { state = x.state; answers = n.done ∷ x.answers } ≡ r = same_Some _ _ q in
    let left : x.state ≡ r.state = ap (λ (y : RunResult). y.state) is in
    let all : n.done ∷ x.answers ≡ r.answers = ap (λ (y : RunResult). y.answers) is in
    ap (with_answer n.done) (more x e (ap (λ (y : State). step f y h.packet h.choices) left ∙ steps)) ∙ ap (λ (ds : List Done). Some (record { state = next.state; answers = ds ++ next.done ∷ [] })) all

behind_step : (f : Function) (hs : List Handling) (h : Handling) (r : RunResult) (next : StepResult) (o : Option StepResult) → ((n : StepResult) → GoesOn f hs h next n) → step f r.state h.packet h.choices ≡ Some next
    → option_and_then (λ (n : StepResult). with_answer n.done (run f n.state hs)) o ≡ Some r
    → option_and_then (λ (n : StepResult). with_answer n.done (run f n.state (hs ++ h ∷ []))) o ≡ Some (one_more r next)
behind_step f hs h r next None more steps q = cc
behind_step f hs h r next (Some n) more steps q = behind_answer f hs h r next n (run f n.state hs) (more n) steps refl q

-- a run, and one packet more behind it
run_more : (f : Function) (s : State) (hs : List Handling) (h : Handling) (r : RunResult) (next : StepResult) → run f s hs ≡ Some r → step f r.state h.packet h.choices ≡ Some next → run f s (hs ++ h ∷ []) ≡ Some (one_more r next)
run_more f s [] h r next ran steps =
    let is : record { state = s; answers = [] } ≡ r = same_Some _ _ ran in
    ap (option_and_then (λ (n : StepResult). with_answer n.done (Some (record { state = n.state; answers = [] })))) (ap (λ (x : RunResult). step f x.state h.packet h.choices) is ∙ steps)
    ∙ ap (λ (x : RunResult). Some (record { state = next.state; answers = x.answers ++ next.done ∷ [] })) is
run_more f s (g ∷ hs) h r next ran steps =
    behind_step f hs h r next (step f s g.packet g.choices) (λ n x e q. run_more f n.state hs h x next e q) steps ran

-- one packet more was handled
undivided_more : (f : Function) (hs : List Handled) (h : Handled) (old new : State) → IsUndivided f hs old → step f old h.arrival.packet h.done.picks ≡ Some (record { state = new; done = h.done }) → IsUndivided f (hs ++ h ∷ []) new
undivided_more f hs h old new u steps =
    ap (run f (opening f)) (map-append handling_in hs (h ∷ []))
    ∙ run_more f (opening f) (map handling_in hs) (handling_in h) (result_in hs old) (record { state = new; done = h.done }) u steps
    ∙ ap (λ (ds : List Done). Some (record { state = new; answers = ds })) (sym (map-append (λ (x : Handled). x.done) hs (h ∷ [])))

alone_more : (hs : List Handled) (h : Handled) → h.worker ≡ 0 → AllByRecursion (λ (x : Handled). x.worker ≡ 0) hs → AllByRecursion (λ (x : Handled). x.worker ≡ 0) (hs ++ h ∷ [])
alone_more [] h e all = (e, tt)
alone_more (x ∷ hs) h e all = (all.0, alone_more hs h e all.1)

-- what stands of files stands where none of them was written
held_kept : (card : Card) (format : CaptureFormat) (ports : ℕ) (hs : List Handled) (old new : Told) (sinks : List Holding) → ((g : ℕ) → new.given g ≡ old.given g) → AreHeld One 1 card format ports hs old sinks → AreHeld One 1 card format ports hs new sinks
held_kept card format ports hs old new sinks same h k s e = let x = h k s e in (x.0, subst (λ (o : Option (List ℕ)). Holds (bytes_of One 1 card format ports k hs) o s.held) (sym (same s.file)) x.1)

-- the arrivals so far and the packet that is shown
arrivals_more : (hs : List Handled) (packet : Packet) (original : ℕ) (frame : List ℕ) (done : Done) (feed : Feeding) → original ≡ original_of feed → frame ≡ frame_of feed → map arrival_of hs ++ shown packet feed ∷ [] ≡ map arrival_of (hs ++ came_to 0 packet original frame done ∷ [])
arrivals_more hs packet original frame done feed o f =
    let here : shown packet feed ≡ record { packet = packet; original = original; frame = frame } = rw (o, f) refl in
    ap (λ (a : Arrival). map arrival_of hs ++ a ∷ []) here ∙ sym (map-append arrival_of hs (came_to 0 packet original frame done ∷ []))

-- ---- what was reached

pub reached_none : (f : Function) (card : Card) (format : CaptureFormat) (ports : ℕ) (begun : Feeding) (start : Told) (sinks : List Holding) (state : State) → state ≡ opening f → begun.given ≡ 0 → AreHeld One 1 card format ports [] start sinks → Reaches f card format ports begun start begun start sinks state
reached_none f card format ports begun start sinks state opens new heads = record {
  hs = [];
  undivided = ap (λ (s : State). Some (result_in [] s)) (sym opens);
  alone = tt;
  stands = λ before h. h;
  held = heads;
  count = sym new;
}

pub reached_more : (f : Function) (card : Card) (format : CaptureFormat) (ports : ℕ) (begun : Feeding) (start : Told) (feed next : Feeding) (old read new : Told) (sinks now : List Holding) (state after : State) (packet : Packet) (original : ℕ) (frame : List ℕ)
    → Reaches f card format ports begun start feed old sinks state
    → ((before : Told) (given : List Arrival) → StandsFor before given feed old → StandsFor before (given ++ shown packet next ∷ []) next read)
    → original ≡ original_of next → frame ≡ frame_of next → next.given ≡ feed.given + 1
    → ((g : ℕ) → read.given g ≡ old.given g) → ((g : ℕ) → new.rest g ≡ read.rest g)
    → HandlesOne {T = Unit {0}} {E = RunFault} f ports packet original frame state after read new sinks now (Ok tt)
    → Reaches f card format ports begun start next new now after
reached_more f card format ports begun start feed next old read new sinks now state after packet original frame r feeds o fr given givens rests h =
    let one = came_to 0 packet original frame h.done in
    record {
      hs = r.hs ++ one ∷ [];
      undivided = undivided_more f r.hs one state after r.undivided h.steps;
      alone = alone_more r.hs one refl r.alone;
      stands = λ before b.
          let s = feeds before (map arrival_of r.hs) (r.stands before b) in
          let moved : StandsFor before (map arrival_of (r.hs ++ one ∷ [])) next read = subst (λ (as_list : List Arrival). StandsFor before as_list next read) (arrivals_more r.hs packet original frame h.done next o fr) s in
          record { count = moved.count; sources = stands_kept before (map arrival_of (r.hs ++ one ∷ [])) next.sources read new rests moved.sources };
      held = h.goes_on card format r.hs (held_kept card format ports r.hs old read sinks givens r.held);
      count = omega (arith, length-append r.hs (one ∷ []), r.count);
    }

-- ---- the end

pub ends_all : (f : Function) (card : Card) (format : CaptureFormat) (ports : ℕ) (begun : Feeding) (start : Told) (feed next : Feeding) (old new : Told) (sinks : List Holding) (state : State)
    → Reaches f card format ports begun start feed old sinks state
    → ((before : Told) (given : List Arrival) → StandsFor before given feed old → StandsFor before given next new × AreAll (packets_of (sixes_in next.sources) (files_in next.sources) before) given × AreTorn before next.sources)
    → next.given ≡ feed.given → ((g : ℕ) → new.given g ≡ old.given g) → files_in next.sources ≡ files_in begun.sources → sixes_in next.sources ≡ sixes_in begun.sources → next.most ≡ begun.most → feed.given ≤ begun.most → Ends f card format ports begun start next new sinks state All
ends_all f card format ports begun start feed next old new sinks state r feeds given givens same six most within = record {
  same_files = same;
  same_six = six;
  same_most = most;
  within = omega arith;
  reached = record {
    hs = r.hs;
    undivided = r.undivided;
    alone = r.alone;
    stands = λ before b. (feeds before (map arrival_of r.hs) (r.stands before b)).0;
    held = held_kept card format ports r.hs old new sinks givens r.held;
    count = omega (arith, r.count);
  };
  ending_is = λ before b. let s = feeds before (map arrival_of r.hs) (r.stands before b) in (s.1, s.2);
}

pub ends_early : (f : Function) (card : Card) (format : CaptureFormat) (ports : ℕ) (begun : Feeding) (start : Told) (feed next : Feeding) (old new : Told) (sinks : List Holding) (state : State)
    → Reaches f card format ports begun start feed old sinks state
    → ((before : Told) (given : List Arrival) → StandsFor before given feed old → StandsFor before given next new × HasMore (packets_of (sixes_in next.sources) (files_in next.sources) before) (length given))
    → next.given ≡ feed.given → feed.given ≡ feed.most → next.most ≡ feed.most → ((g : ℕ) → new.given g ≡ old.given g) → files_in next.sources ≡ files_in begun.sources → sixes_in next.sources ≡ sixes_in begun.sources → next.most ≡ begun.most → Ends f card format ports begun start next new sinks state TooMany
ends_early f card format ports begun start feed next old new sinks state r feeds given all most givens same six same_most = record {
  same_files = same;
  same_six = six;
  same_most = same_most;
  within = omega arith;
  reached = record {
    hs = r.hs;
    undivided = r.undivided;
    alone = r.alone;
    stands = λ before b. (feeds before (map arrival_of r.hs) (r.stands before b)).0;
    held = held_kept card format ports r.hs old new sinks givens r.held;
    count = omega (arith, r.count);
  };
  ending_is = λ before b.
      let s = feeds before (map arrival_of r.hs) (r.stands before b) in
      (omega (arith, r.count), subst (λ (n : ℕ). HasMore (packets_of (sixes_in next.sources) (files_in next.sources) before) n) (length-map r.hs arrival_of) s.1);
}

-- ---- where it stops

are_first : (all : Option (List Arrival)) (given : List Arrival) (left : Option (List Arrival)) → Follows all given left → AreFirst all given
are_first None given left h = tt
are_first (Some all) given None h = absurd h
are_first (Some all) given (Some left) h = (in_order left, h)

pub first_given : (before : Told) (given : List Arrival) (feed begun : Feeding) (now : Told) → files_in feed.sources ≡ files_in begun.sources → sixes_in feed.sources ≡ sixes_in begun.sources → StandsFor before given feed now → AreFirst (packets_of (sixes_in begun.sources) (files_in begun.sources) before) given
first_given before given feed begun now same six h =
    subst (λ (bs : List Bool). AreFirst (packets_of bs (files_in begun.sources) before) given) six
    (subst (λ (fs : List ℕ). AreFirst (packets_of (sixes_in feed.sources) fs before) given) same (are_first (packets_of (sixes_in feed.sources) (files_in feed.sources) before) given (all_left feed.sources now) h.sources.order))

-- a capture failed
pub halts_reading : (f : Function) (card : Card) (format : CaptureFormat) (ports : ℕ) (begun : Feeding) (start : Told) (feed : Feeding) (old new : Told) (sinks : List Holding) (state : State)
    → Reaches f card format ports begun start feed old sinks state → files_in feed.sources ≡ files_in begun.sources → sixes_in feed.sources ≡ sixes_in begun.sources → feed.given ≤ begun.most → ((g : ℕ) → new.given g ≡ old.given g) → Halts f card format ports begun start new (files_of sinks)
halts_reading f card format ports begun start feed old new sinks state r same six within givens = record {
  hs = r.hs;
  state = state;
  undivided = r.undivided;
  alone = r.alone;
  first = λ before b. first_given before (map arrival_of r.hs) feed begun old same six (r.stands before b);
  within = omega (arith, r.count);
  fronts = λ k file e.
      let s = stays_in sinks k file e in
      subst (λ (n : ℕ). IsFrontIfTold (bytes_of One 1 card format ports k r.hs) (new.given n)) s.2
      (front_all (bytes_of One 1 card format ports k r.hs) (new.given s.0.file) s.0.held (held_kept card format ports r.hs old new sinks givens r.held k s.0 s.1).1);
}

-- a packet could not be put into all files
pub halts_writing : (f : Function) (card : Card) (format : CaptureFormat) (ports : ℕ) (begun : Feeding) (start : Told) (feed next : Feeding) (old read new : Told) (sinks now : List Holding) (state after : State) (packet : Packet) (original : ℕ) (frame : List ℕ) (stop : RunFault)
    → Reaches f card format ports begun start feed old sinks state
    → ((before : Told) (given : List Arrival) → StandsFor before given feed old → StandsFor before (given ++ shown packet next ∷ []) next read)
    → original ≡ original_of next → frame ≡ frame_of next → files_in next.sources ≡ files_in begun.sources → sixes_in next.sources ≡ sixes_in begun.sources → feed.given < begun.most
    → ((g : ℕ) → read.given g ≡ old.given g)
    → HandlesOne {T = Unit {0}} {E = RunFault} f ports packet original frame state after read new sinks now (Err stop)
    → Halts f card format ports begun start new (files_of now)
halts_writing f card format ports begun start feed next old read new sinks now state after packet original frame stop r feeds o fr same six within givens h =
    let one = came_to 0 packet original frame h.done in
    record {
      hs = r.hs ++ one ∷ [];
      state = after;
      undivided = undivided_more f r.hs one state after r.undivided h.steps;
      alone = alone_more r.hs one refl r.alone;
      first = λ before b.
          let s = feeds before (map arrival_of r.hs) (r.stands before b) in
          let moved : StandsFor before (map arrival_of (r.hs ++ one ∷ [])) next read = subst (λ (as_list : List Arrival). StandsFor before as_list next read) (arrivals_more r.hs packet original frame h.done next o fr) s in
          first_given before (map arrival_of (r.hs ++ one ∷ [])) next begun read same six moved;
      within = omega (arith, length-append r.hs (one ∷ []), r.count);
      fronts = h.goes_on card format r.hs (held_kept card format ports r.hs old read sinks givens r.held);
    }
