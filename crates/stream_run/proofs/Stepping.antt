-- Packets that are handled one after the other: one more, and those in front.
use Rattle.std.proofs.Common.{◌≡◌, List, [], ◌∷◌, ◌++◌, length, map, Option, Some, None, option_and_then, refl, sym, ap, ◌∙◌, subst, arith}
use Rattle.std.specs.List.{AllByRecursion}
use Rattle.std.proofs.lemmas.List.{map-append, length-map}
use Rattle.std.proofs.lemmas.Option.{same_Some}
use Rattle.nf_base.specs.declared.done.Done.{Done}
use Rattle.nf_base.specs.declared.state.State.{State}
use Rattle.nf_base.specs.Text.{Function}
use Rattle.nf_base.specs.Operations.{never}
use Rattle.nf_base.specs.Step.{StepResult, step, opening}
use Rattle.nf_base.specs.Runs.{Handling, RunResult, run, with_answer}
use Rattle.nf_laws.specs.Runs.{with_answers}
use Rattle.nf_laws.proofs.Parted.{runs_part, begins, answer_each}
use Rattle.shard_laws.specs.Queues.{Throughout}
use Rattle.stream_run.specs.Runs.{Turn, Handled, turn_of}
use Rattle.stream_run.specs.Streaming.{handling_in, IsUndivided}

-- ---- lists

pub all_more : {A : Type 0} (P : A → Type 0) (xs : List A) (x : A) → AllByRecursion P xs → P x → AllByRecursion P (xs ++ x ∷ [])
all_more P [] x all p = (p, tt)
all_more P (y ∷ xs) x all p = (all.0, all_more P xs x all.1 p)

pub last_of : {A : Type 0} (P : A → Type 0) (xs : List A) (x : A) → AllByRecursion P (xs ++ x ∷ []) → P x
last_of P [] x all = all.0
last_of P (y ∷ xs) x all = last_of P xs x all.1

pub all_front : {A : Type 0} (P : A → Type 0) (xs ys : List A) → AllByRecursion P (xs ++ ys) → AllByRecursion P xs
all_front P [] ys h = tt
all_front P (x ∷ xs) ys h = (h.0, all_front P xs ys h.1)

pub all_turned : (P : Turn → Type 0) (hs : List Handled) → AllByRecursion (λ (h : Handled). P (turn_of h)) hs → AllByRecursion P (map turn_of hs)
all_turned P [] h = tt
all_turned P (x ∷ hs) h = (h.0, all_turned P hs h.1)

pub turned : (P : Turn → Type 0) (hs : List Handled) → AllByRecursion P (map turn_of hs) → AllByRecursion (λ (h : Handled). P (turn_of h)) hs
turned P [] h = tt
turned P (x ∷ hs) h = (h.0, turned P hs h.1)

pub same_front : {A : Type 0} (xs ys vs ws : List A) → length xs ≡ length ys → xs ++ vs ≡ ys ++ ws → xs ≡ ys
same_front [] [] vs ws n e = refl
same_front [] (y ∷ ys) vs ws n e = absurd (omega (arith, n))
same_front (x ∷ xs) [] vs ws n e = absurd (omega (arith, n))
same_front {A = A} (x ∷ xs) (y ∷ ys) vs ws n e =
    let first : x ≡ y = cc in
    let rest : xs ++ vs ≡ ys ++ ws = cc in
    ap (λ (z : A). z ∷ xs) first ∙ ap (λ (t : List A). y ∷ t) (same_front xs ys vs ws (omega (arith, n)) rest)

-- ---- one packet more

one_step : (f : Function) (h : Handling) (s : State) (next : StepResult) → step f s h.packet h.choices ≡ Some next → run f s (h ∷ []) ≡ Some (record { state = next.state; answers = next.done ∷ [] })
one_step f h s next steps = ap (option_and_then (λ (n : StepResult). with_answer n.done (Some (record { state = n.state; answers = [] })))) steps

parted : (f : Function) (hs : List Handled) (h : Handled) (old : State) → IsUndivided f hs old
    → run f (opening f) (map handling_in (hs ++ h ∷ [])) ≡ with_answers (map (λ (x : Handled). x.done) hs) (run f old (handling_in h ∷ []))
parted f hs h old r =
    ap (run f (opening f)) (map-append handling_in hs (h ∷ []))
    ∙ runs_part never f (opening f) (map handling_in hs) (handling_in h ∷ [])
    ∙ ap (option_and_then (λ (a : RunResult). with_answers a.answers (run f a.state (handling_in h ∷ [])))) r

pub undivided_more : (f : Function) (hs : List Handled) (h : Handled) (old new : State) → IsUndivided f hs old → step f old h.arrival.packet h.done.picks ≡ Some (record { state = new; done = h.done }) → IsUndivided f (hs ++ h ∷ []) new
undivided_more f hs h old new r steps =
    parted f hs h old r
    ∙ ap (with_answers (map (λ (x : Handled). x.done) hs)) (one_step f (handling_in h) old (record { state = new; done = h.done }) steps)
    ∙ ap (λ (ds : List Done). Some (record { state = new; answers = ds })) (sym (map-append (λ (x : Handled). x.done) hs (h ∷ [])))

-- the step of the last packet
snoc_one : (xs ys : List Done) (x y : Done) → xs ++ x ∷ [] ≡ ys ++ y ∷ [] → x ≡ y
snoc_one [] [] x y e = cc
snoc_one [] (b ∷ []) x y e = absurd cc
snoc_one [] (b ∷ c ∷ ys) x y e = absurd cc
snoc_one (a ∷ []) [] x y e = absurd cc
snoc_one (a ∷ c ∷ xs) [] x y e = absurd cc
snoc_one (a ∷ xs) (b ∷ ys) x y e = let rest : xs ++ x ∷ [] ≡ ys ++ y ∷ [] = cc in snoc_one xs ys x y rest

last_of_one : (f : Function) (h : Handled) (old s : State) (ds : List Done) (o : Option RunResult) → run f old (handling_in h ∷ []) ≡ o → with_answers ds o ≡ Some (record { state = s; answers = ds ++ h.done ∷ [] })
    → step f old h.arrival.packet h.done.picks ≡ Some (record { state = s; done = h.done })
last_of_one f h old s ds None e q = absurd cc
last_of_one f h old s ds (Some r) e q =
    let first = begins never f old (handling_in h) [] r e in
    let nothing : record { state = first.next.state; answers = [] } ≡ first.rest = same_Some _ _ first.ran in
    let is : r ≡ record { state = first.next.state; answers = first.next.done ∷ [] } = first.is ∙ ap (λ (x : RunResult). record { state = x.state; answers = first.next.done ∷ x.answers }) (sym nothing) in
    let both : record { state = r.state; answers = ds ++ r.answers } ≡ record { state = s; answers = ds ++ h.done ∷ [] } = same_Some _ _ q in
    let left : first.next.state ≡ s = ap (λ (x : RunResult). x.state) (sym is) ∙ ap (λ (x : RunResult). x.state) both in
    let done : first.next.done ≡ h.done = snoc_one ds ds first.next.done h.done (ap (λ (x : RunResult). ds ++ x.answers) (sym is) ∙ ap (λ (x : RunResult). x.answers) both) in
    first.stepped ∙ ap (λ (d : Done). Some (record { state = first.next.state; done = d })) done ∙ ap (λ (t : State). Some (record { state = t; done = h.done })) left

pub undivided_last : (f : Function) (hs : List Handled) (h : Handled) (old s : State) → IsUndivided f hs old → IsUndivided f (hs ++ h ∷ []) s → step f old h.arrival.packet h.done.picks ≡ Some (record { state = s; done = h.done })
undivided_last f hs h old s r more =
    last_of_one f h old s (map (λ (x : Handled). x.done) hs) (run f old (handling_in h ∷ [])) refl
    (sym (parted f hs h old r) ∙ more ∙ ap (λ (ds : List Done). Some (record { state = s; answers = ds })) (map-append (λ (x : Handled). x.done) hs (h ∷ [])))

-- ---- what holds of each packet of a run

module _ (P : State → Handling → Type 0) (f : Function) where
  pub throughout_more : (s : State) (hs : List Handling) (h : Handling) (r : RunResult) → run f s hs ≡ Some r → Throughout P f s hs → P r.state h → Throughout P f s (hs ++ h ∷ [])
  throughout_more s [] h r e t p =
      let same : record { state = s; answers = [] } ≡ r = same_Some _ _ e in
      (subst (λ (x : RunResult). P x.state h) (sym same) p, λ next q. tt)
  throughout_more s (x ∷ hs) h r e t p =
      let w = begins never f s x hs r e in (
        t.0,
        λ next q.
            let same : w.next ≡ next = same_Some _ _ (sym w.stepped ∙ q) in
            subst (λ (n : StepResult). Throughout P f n.state (hs ++ h ∷ [])) same
            (throughout_more w.next.state hs h w.rest w.ran (t.1 w.next w.stepped) (subst (λ (y : RunResult). P y.state h) w.is p)),
      )

  pub throughout_last : (s : State) (hs : List Handling) (h : Handling) (r : RunResult) → run f s hs ≡ Some r → Throughout P f s (hs ++ h ∷ []) → P r.state h
  throughout_last s [] h r e t =
      let same : record { state = s; answers = [] } ≡ r = same_Some _ _ e in
      subst (λ (x : RunResult). P x.state h) same t.0
  throughout_last s (x ∷ hs) h r e t =
      let w = begins never f s x hs r e in
      subst (λ (y : RunResult). P y.state h) (sym w.is) (throughout_last w.next.state hs h w.rest w.ran (t.1 w.next w.stepped))

  pub throughout_front : (s : State) (xs ys : List Handling) → Throughout P f s (xs ++ ys) → Throughout P f s xs
  throughout_front s [] ys t = tt
  throughout_front s (x ∷ xs) ys t = (t.0, λ next q. throughout_front next.state xs ys (t.1 next q))

-- what holds of any packet holds of each
pub always : (P : State → Handling → Type 0) (f : Function) → ((s : State) (h : Handling) → P s h) → (s : State) (hs : List Handling) → Throughout P f s hs
always P f p s [] = tt
always P f p s (h ∷ hs) = (p s h, λ next q. always P f p next.state hs)

pub weaker : (P Q : State → Handling → Type 0) (f : Function) → ((s : State) (h : Handling) → P s h → Q s h) → (s : State) (hs : List Handling) → Throughout P f s hs → Throughout Q f s hs
weaker P Q f to s [] t = tt
weaker P Q f to s (h ∷ hs) t = (to s h t.0, λ next q. weaker P Q f to next.state hs (t.1 next q))

-- ---- the first packets of a run

front_of : (f : Function) (xs ys : List Handled) (s : State) (o : Option RunResult) → run f (opening f) (map handling_in xs) ≡ o
    → option_and_then (λ (a : RunResult). with_answers a.answers (run f a.state (map handling_in ys))) o ≡ Some (record { state = s; answers = map (λ (h : Handled). h.done) xs ++ map (λ (h : Handled). h.done) ys }) → (t : State) × IsUndivided f xs t
front_of f xs ys s None e q = absurd cc
front_of f xs ys s (Some a) e q = of_rest (run f a.state (map handling_in ys)) q
  where
    of_rest : (o : Option RunResult) → with_answers a.answers o ≡ Some (record { state = s; answers = map (λ (h : Handled). h.done) xs ++ map (λ (h : Handled). h.done) ys }) → (t : State) × IsUndivided f xs t
    of_rest None p = absurd cc
    of_rest (Some r) p =
        let each : length a.answers ≡ length xs = answer_each never f (opening f) (map handling_in xs) a e ∙ length-map xs handling_in in
        let both : a.answers ++ r.answers ≡ map (λ (h : Handled). h.done) xs ++ map (λ (h : Handled). h.done) ys = ap (λ (x : RunResult). x.answers) (same_Some _ _ p) in
        let same = same_front a.answers (map (λ (h : Handled). h.done) xs) r.answers (map (λ (h : Handled). h.done) ys) (each ∙ sym (length-map xs (λ (h : Handled). h.done))) both in
        (a.state, e ∙ ap (λ (ds : List Done). Some (record { state = a.state; answers = ds })) same)

pub undivided_front : (f : Function) (xs ys : List Handled) (s : State) → IsUndivided f (xs ++ ys) s → (t : State) × IsUndivided f xs t
undivided_front f xs ys s u =
    front_of f xs ys s (run f (opening f) (map handling_in xs)) refl
    (sym (ap (run f (opening f)) (map-append handling_in xs ys) ∙ runs_part never f (opening f) (map handling_in xs) (map handling_in ys)) ∙ u
    ∙ ap (λ (ds : List Done). Some (record { state = s; answers = ds })) (map-append (λ (h : Handled). h.done) xs ys))
