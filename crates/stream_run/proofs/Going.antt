-- Runs that go on.
use Rattle.std.proofs.Common.{◌≡◌, ℕ, List, [], ◌∷◌, ◌++◌, length, map, Option, Some, None, option_and_then, refl, sym, ap, ◌∙◌, arith}
use Rattle.std.specs.List.{AllByRecursion}
use Rattle.std.proofs.lemmas.List.{map-append, length-map}
use Rattle.std.proofs.lemmas.List.Elements.{All-from_recursion, All-map}
use Rattle.std.proofs.lemmas.Option.{same_Some}
use Rattle.nf_base.specs.Text.{Function}
use Rattle.nf_base.specs.Operations.{never}
use Rattle.nf_base.specs.Runs.{Handling, RunResult, run}
use Rattle.nf_base.specs.Step.{opening}
use Rattle.nf_base.specs.declared.packet.Packet.{Packet}
use Rattle.nf_base.specs.declared.done.Done.{Done}
use Rattle.nf_base.specs.declared.state.State.{State}
use Rattle.nf_laws.specs.Steps.{HasHandler}
use Rattle.nf_laws.specs.Runs.{with_answers, packets_of}
use Rattle.nf_laws.proofs.Parted.{runs_part, answer_each, runs_go_on, begins}
use Rattle.nf_laws.proofs.Picked.{steps_pick}
use Rattle.packet_feed.specs.Arrivals.{Arrival, packet_of}
use Rattle.stream_run.specs.Runs.{Turn, Run, Handled, IsLegal, handling_of, arrival_in, course_of, handled_if, handled_in, paired, longer, turn_of}
use Rattle.stream_run.specs.Laws.{LegalRunsGoOn, HandledAreTurns}

-- ---- a run over two lists

-- what the second list of a run came to
pub record Parts (f : Function) (first : RunResult) (second : List Handling) (whole : RunResult) : Type 0 where
  pub rest : RunResult
  pub ran : run f first.state second ≡ Some rest
  pub answers : whole.answers ≡ first.answers ++ rest.answers

of_answers : (f : Function) (a : RunResult) (second : List Handling) (b : RunResult) (o : Option RunResult) → run f a.state second ≡ o → with_answers a.answers o ≡ Some b → Parts f a second b
of_answers f a second b None q e = absurd cc
of_answers f a second b (Some x) q e = record { rest = x; ran = q; answers = ap (λ (r : RunResult). r.answers) (sym (same_Some _ _ e)) }

parted : (f : Function) (s : State) (first second : List Handling) (a : RunResult) → run f s first ≡ Some a → run f s (first ++ second) ≡ with_answers a.answers (run f a.state second)
parted f s first second a e = runs_part never f s first second ∙ ap (option_and_then (λ (r : RunResult). with_answers r.answers (run f r.state second))) e

pub parts : (f : Function) (s : State) (first second : List Handling) (a b : RunResult) → run f s first ≡ Some a → run f s (first ++ second) ≡ Some b → Parts f a second b
parts f s first second a b e q = of_answers f a second b (run f a.state second) refl (sym (parted f s first second a e) ∙ q)

-- ---- what packets came to, of two lists

paired_both : (ts us : List Turn) (ds es : List Done) → length ds ≡ length ts → paired (ts ++ us) (ds ++ es) ≡ paired ts ds ++ paired us es
paired_both [] us [] es e = refl
paired_both [] us (d ∷ ds) es e = absurd (omega arith)
paired_both (t ∷ ts) us [] es e = absurd (omega arith)
paired_both (t ∷ ts) us (d ∷ ds) es e = ap (λ (hs : List Handled). record { arrival = t.arrival; worker = t.worker; done = d } ∷ hs) (paired_both ts us ds es (omega arith))

pub handled_is : (r : Run) (a : RunResult) → course_of r ≡ Some a → handled_in r ≡ paired r.turns a.answers
handled_is r a e = ap (handled_if r.turns) e

-- what a longer run's packets came to
pub handled_longer : (r : Run) (later : List Turn) → IsLegal r → IsLegal (longer r later) → (more : List Handled) × (handled_in (longer r later) ≡ handled_in r ++ more)
handled_longer r later legal long =
    let f = r.function in
    let all : run f (opening f) (map handling_of r.turns ++ map handling_of later) ≡ Some long.result = ap (run f (opening f)) (sym (map-append handling_of r.turns later)) ∙ long.ran in
    let two = parts f (opening f) (map handling_of r.turns) (map handling_of later) legal.result long.result legal.ran all in
    let each : length legal.result.answers ≡ length r.turns = answer_each never f (opening f) (map handling_of r.turns) legal.result legal.ran ∙ length-map r.turns handling_of in (
      paired later two.rest.answers,
      handled_is (longer r later) long.result long.ran
          ∙ ap (paired (r.turns ++ later)) two.answers
          ∙ paired_both r.turns later legal.result.answers two.rest.answers each
          ∙ ap (λ (hs : List Handled). hs ++ paired later two.rest.answers) (sym (handled_is r legal.result legal.ran)),
    )

-- ---- further packets, with choices

abbrev turns_with : (Arrival → ℕ) → List Arrival → List Handling → List Turn
turns_with worker [] hs = []
turns_with worker (a ∷ as_list) [] = []
turns_with worker (a ∷ as_list) (h ∷ hs) = record { arrival = a; worker = worker a; choices = h.choices } ∷ turns_with worker as_list hs

with_handlings : (worker : Arrival → ℕ) (more : List Arrival) (hs : List Handling) → packets_of hs ≡ map packet_of more → map handling_of (turns_with worker more hs) ≡ hs
with_handlings worker [] [] e = refl
with_handlings worker [] (h ∷ hs) e = absurd cc
with_handlings worker (a ∷ more) [] e = absurd cc
with_handlings worker (a ∷ more) (h ∷ hs) e =
    let same : h.packet ≡ a.packet = cc in
    let rest : packets_of hs ≡ map packet_of more = cc in
    ap (λ (p : Packet). let x : Handling = record { packet = p; choices = h.choices } in x ∷ map handling_of (turns_with worker more hs)) (sym same)
    ∙ ap (λ (xs : List Handling). h ∷ xs) (with_handlings worker more hs rest)

with_arrivals : (worker : Arrival → ℕ) (more : List Arrival) (hs : List Handling) → packets_of hs ≡ map packet_of more → map arrival_in (turns_with worker more hs) ≡ more
with_arrivals worker [] hs e = refl
with_arrivals worker (a ∷ more) [] e = absurd cc
with_arrivals worker (a ∷ more) (h ∷ hs) e = let rest : packets_of hs ≡ map packet_of more = cc in ap (λ (xs : List Arrival). a ∷ xs) (with_arrivals worker more hs rest)

with_workers : (worker : Arrival → ℕ) (more : List Arrival) (hs : List Handling) → AllByRecursion (λ (t : Turn). t.worker ≡ worker t.arrival) (turns_with worker more hs)
with_workers worker [] hs = tt
with_workers worker (a ∷ more) [] = tt
with_workers worker (a ∷ more) (h ∷ hs) = (refl, with_workers worker more hs)

pub go_on : LegalRunsGoOn
go_on r more worker legal handlers =
    let f = r.function in
    let on = runs_go_on f legal.result.state (map packet_of more) (All-map (HasHandler f) packet_of more handlers) in
    let later = turns_with worker more on.0 in (
      later,
      (
        with_arrivals worker more on.0 on.1.1,
        All-from_recursion (λ (t : Turn). t.worker ≡ worker t.arrival) later (with_workers worker more on.0),
        record {
          result = record { state = on.1.0.state; answers = legal.result.answers ++ on.1.0.answers };
          ran =
              ap (run f (opening f)) (map-append handling_of r.turns later)
              ∙ parted f (opening f) (map handling_of r.turns) (map handling_of later) legal.result legal.ran
              ∙ ap (λ (hs : List Handling). with_answers legal.result.answers (run f legal.result.state hs)) (with_handlings worker more on.0 on.1.1)
              ∙ ap (with_answers legal.result.answers) on.1.2;
        },
      ),
    )

-- ---- packets with the choices that they were given

same_turns : (f : Function) (s : State) (ts : List Turn) (a : RunResult) → run f s (map handling_of ts) ≡ Some a → map turn_of (paired ts a.answers) ≡ ts
same_turns f s [] a e = refl
same_turns f s (t ∷ ts) a e =
    let w = begins never f s (handling_of t) (map handling_of ts) a e in
    let picks : w.next.done.picks ≡ t.choices = steps_pick never f s t.arrival.packet t.choices w.next w.stepped in
    ap (λ (r : RunResult). map turn_of (paired (t ∷ ts) r.answers)) w.is
    ∙ ap (λ (cs : List ℕ). let u : Turn = record { arrival = t.arrival; worker = t.worker; choices = cs } in u ∷ map turn_of (paired ts w.rest.answers)) picks
    ∙ ap (λ (us : List Turn). t ∷ us) (same_turns f w.next.state ts w.rest w.ran)

pub are_turns : HandledAreTurns
are_turns r legal = ap (map turn_of) (handled_is r legal.result legal.ran) ∙ same_turns r.function (opening r.function) r.turns legal.result legal.ran
