-- Runs by a rule: what was handled is one, and each goes on.
use Rattle.std.proofs.Common.{◌≡◌, List, [], ◌∷◌, ◌++◌, length, map, Option, Some, None, option_and_then, refl, sym, ap, ◌∙◌, subst, arith}
use Rattle.std.specs.List.{AllByRecursion}
use Rattle.std.proofs.lemmas.List.{map-append, length-map}
use Rattle.nf_base.specs.declared.card.Card.{Card}
use Rattle.nf_base.specs.declared.done.Done.{Done}
use Rattle.nf_base.specs.declared.state.State.{State}
use Rattle.nf_base.specs.Text.{Function}
use Rattle.nf_base.specs.Operations.{never}
use Rattle.nf_base.specs.Step.{opening}
use Rattle.nf_base.specs.Runs.{Handling, RunResult, run}
use Rattle.nf_laws.specs.Runs.{with_answers}
use Rattle.nf_laws.proofs.Parted.{runs_part, answer_each}
use Rattle.packet_feed.specs.Arrivals.{Arrival}
use Rattle.shard_laws.specs.Queues.{Throughout}
use Rattle.stream_run.specs.Runs.{Turn, Run, Handled, IsLegal, course_of, handling_of, arrival_in, handled_in, paired, longer, turn_of}
use Rattle.stream_run.specs.Streaming.{arrival_of, handling_in, result_in, IsUndivided}
use Rattle.stream_run.specs.Orders.{AreFirstBy}
use Rattle.stream_run.specs.Rules.{Rule, KeepsBy, IsRunBy, AreBy}
use Rattle.stream_run.specs.RuleLaws.{NothingIsARun, HandledAreRuns, FrontsHaveFronts, RunsGoOnByOne, HandledHaveFronts}
use Rattle.stream_run.proofs.Going.{handled_is, are_turns}
use Rattle.stream_run.proofs.Stepping.{all_more, last_of, all_front, turned, undivided_more, undivided_last, throughout_more, throughout_last, throughout_front, undivided_front}
use Rattle.stream_run.proofs.Ordered.{keeps_itself, first_stay, fewer_by}
use Rattle.stream_run.proofs.Complete.{same_handlings, same_arrivals, handled_of, run_by}

-- ---- what the packets of a run came to

dones_of : (ts : List Turn) (ds : List Done) → length ds ≡ length ts → map (λ (h : Handled). h.done) (paired ts ds) ≡ ds
dones_of [] [] e = refl
dones_of [] (d ∷ ds) e = absurd (omega (arith, e))
dones_of (t ∷ ts) [] e = absurd (omega (arith, e))
dones_of (t ∷ ts) (d ∷ ds) e = ap (λ (xs : List Done). d ∷ xs) (dones_of ts ds (omega (arith, e)))

-- the packets of a run with their choices
handlings_are : (r : Run) → IsLegal r → map handling_in (handled_in r) ≡ map handling_of r.turns
handlings_are r legal = sym (same_handlings (handled_in r)) ∙ ap (map handling_of) (are_turns r legal)

-- and with their frames
pub arrivals_are : (r : Run) → IsLegal r → map arrival_of (handled_in r) ≡ map arrival_in r.turns
arrivals_are r legal = sym (same_arrivals (handled_in r)) ∙ ap (map arrival_in) (are_turns r legal)

undivided_of : (f : Function) (r : Run) (state : State) (answers : List Done) → r.function ≡ f → course_of r ≡ Some (record { state = state; answers = answers }) → IsUndivided f (handled_in r) state
undivided_of f r state answers same e =
    let a : RunResult = record { state = state; answers = answers } in
    let hs = handled_in r in
    let each : length answers ≡ length r.turns = answer_each never r.function (opening r.function) (map handling_of r.turns) a e ∙ length-map r.turns handling_of in
    let dones : map (λ (h : Handled). h.done) hs ≡ answers = ap (map (λ (h : Handled). h.done)) (handled_is r a e) ∙ dones_of r.turns answers each in
    subst (λ (g : Function). run g (opening g) (map handling_in hs) ≡ Some (result_in hs state)) same
    (ap (run r.function (opening r.function)) (handlings_are r (record { result = a; ran = e })) ∙ e ∙ ap (λ (ds : List Done). Some (record { state = state; answers = ds })) (sym dones))

each_of : (P : Turn → Type 0) (r : Run) → IsLegal r → AllByRecursion P r.turns → AllByRecursion (λ (h : Handled). P (turn_of h)) (handled_in r)
each_of P r legal h = turned P (handled_in r) (subst (AllByRecursion P) (sym (are_turns r legal)) h)

-- what a run by a rule came to was handled by it
pub run_handled : (rule : Rule) (f : Function) (card : Card) (given : List Arrival) (r : Run) (state : State) (answers : List Done) → IsRunBy rule f card given r → course_of r ≡ Some (record { state = state; answers = answers }) → AreBy rule f (handled_in r) state
run_handled rule f card given r state answers is e =
    let legal : IsLegal r = record { result = record { state = state; answers = answers }; ran = e } in
    record {
      undivided = undivided_of f r state answers is.function e;
      own = each_of (λ (t : Turn). t.worker ≡ rule.worker_of t.arrival.packet) r legal is.own;
      kept = subst (Throughout (KeepsBy rule f) f (opening f)) (sym (handlings_are r legal)) is.kept;
    }

-- ---- the run of packets that were handled

pub nothing_is : NothingIsARun
nothing_is rule f card = record {
  function = refl;
  mode = refl;
  workers = refl;
  card_is = refl;
  own = tt;
  order = keeps_itself rule.order [];
  legal = record { result = record { state = opening f; answers = [] }; ran = refl };
  kept = tt;
}

pub handled_runs : HandledAreRuns
handled_runs rule f card hs state a = (
  run_by rule f rule.mode rule.workers card (map arrival_of hs) hs state refl refl a (keeps_itself rule.order (map arrival_of hs)),
  handled_of f rule.mode rule.workers card hs state a.undivided,
)

-- ---- runs that end early

ran_front : (f : Function) (s : State) (ys : List Handling) (o : Option RunResult) (b : RunResult) → option_and_then (λ (a : RunResult). with_answers a.answers (run f a.state ys)) o ≡ Some b → (a : RunResult) × (o ≡ Some a)
ran_front f s ys None b e = absurd cc
ran_front f s ys (Some a) b e = (a, refl)

legal_front : (r : Run) (later : List Turn) → IsLegal (longer r later) → IsLegal r
legal_front r later legal =
    let f = r.function in
    let xs = map handling_of r.turns in
    let ys = map handling_of later in
    let a = ran_front f (opening f) ys (run f (opening f) xs) legal.result (sym (ap (run f (opening f)) (map-append handling_of r.turns later) ∙ runs_part never f (opening f) xs ys) ∙ legal.ran) in
    record { result = a.0; ran = a.1 }

pub fronts_fronts : FrontsHaveFronts
fronts_fronts rule f card all r later h =
    let whole : AreFirstBy rule.order all (map arrival_in r.turns ++ map arrival_in later) =
    subst (AreFirstBy rule.order all) (map-append arrival_in r.turns later) (first_stay rule.order all h.given (map arrival_in (r.turns ++ later)) h.first h.is_run.order) in
    record {
      given = map arrival_in r.turns;
      first = fewer_by rule.order all (map arrival_in r.turns) (map arrival_in later) whole;
      is_run = record {
        function = h.is_run.function;
        mode = h.is_run.mode;
        workers = h.is_run.workers;
        card_is = h.is_run.card_is;
        own = all_front (λ (t : Turn). t.worker ≡ rule.worker_of t.arrival.packet) r.turns later h.is_run.own;
        order = keeps_itself rule.order (map arrival_in r.turns);
        legal = legal_front r later h.is_run.legal;
        kept = throughout_front (KeepsBy rule f) f (opening f) (map handling_of r.turns) (map handling_of later)
            (subst (Throughout (KeepsBy rule f) f (opening f)) (map-append handling_of r.turns later) h.is_run.kept);
      };
    }

-- ---- one packet more

pub goes_on : RunsGoOnByOne
goes_on rule f hs h old new a = (
  λ more. record {
    own = last_of (λ (x : Handled). x.worker ≡ rule.worker_of x.arrival.packet) hs h more.own;
    steps = undivided_last f hs h old new a.undivided more.undivided;
    kept = throughout_last (KeepsBy rule f) f (opening f) (map handling_in hs) (handling_in h) (result_in hs old) a.undivided
        (subst (Throughout (KeepsBy rule f) f (opening f)) (map-append handling_in hs (h ∷ [])) more.kept);
  },
  λ next. record {
    undivided = undivided_more f hs h old new a.undivided next.steps;
    own = all_more (λ (x : Handled). x.worker ≡ rule.worker_of x.arrival.packet) hs h a.own next.own;
    kept = subst (Throughout (KeepsBy rule f) f (opening f)) (sym (map-append handling_in hs (h ∷ [])))
        (throughout_more (KeepsBy rule f) f (opening f) (map handling_in hs) (handling_in h) (result_in hs old) a.undivided a.kept next.kept);
  },
)

pub handled_fronts : HandledHaveFronts
handled_fronts rule f xs ys state a =
    let u = undivided_front f xs ys state a.undivided in (
      u.0,
      record {
        undivided = u.1;
        own = all_front (λ (x : Handled). x.worker ≡ rule.worker_of x.arrival.packet) xs ys a.own;
        kept = throughout_front (KeepsBy rule f) f (opening f) (map handling_in xs) (map handling_in ys)
            (subst (Throughout (KeepsBy rule f) f (opening f)) (map-append handling_in xs ys) a.kept);
      },
    )
