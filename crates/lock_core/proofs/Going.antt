-- How the state goes along an order.
use Rattle.std.proofs.Common.{◌≡◌, ℕ, zero, suc, ◌+◌, List, [], ◌∷◌, ◌++◌, length, map, fold, take, Option, Some, None, option_and_then, refl, sym, ap, ◌∙◌, subst, arith, take_all, length-append}
use Rattle.std.proofs.lemmas.List.{map-append, length-map, take_at, append_cancel_left}
use Rattle.std.proofs.lemmas.Option.{same_Some}
use mathlib.Core.List.{IsPrefix}
use Rattle.nf_base.specs.declared.state.State.{State}
use Rattle.nf_base.specs.declared.done.Done.{Done}
use Rattle.nf_base.specs.Text.{Function}
use Rattle.nf_base.specs.Operations.{never}
use Rattle.nf_base.specs.Step.{StepResult, step, opening}
use Rattle.nf_base.specs.Runs.{Handling, RunResult, run, with_answer}
use Rattle.nf_laws.specs.Runs.{with_answers}
use Rattle.nf_laws.proofs.Parted.{runs_part, answer_each}
use Rattle.lock_core.specs.declared.call.Way.{Way}
use Rattle.lock_core.specs.declared.call.Way.TheVariants.{Look, Alone}
use Rattle.lock_core.specs.declared.call.Entry.{Entry}
use Rattle.lock_core.specs.declared.call.Ordered.{Ordered}
use Rattle.lock_core.specs.Calls.{by_way, entry_behind, with_packet, at_next, put_behind}
use Rattle.lock_core.specs.Events.{handling_of, answer_of, ComesTo}
use Rattle.lock_core.specs.Histories.{handling_in, answer_in}
use Rattle.lock_core.proofs.Orders.{left_by_look, grown_by_alone, history_prefix}

-- a packet of one of the function's ports makes a step with its very answer, and a look leaves the
-- state
pub record Steps (f : Function) (s : State) (x : Ordered) (u : State) : Type 0 where
  pub steps : step f s x.packet x.done.picks ≡ Some (record { state = u; done = x.done })
  pub leaves : x.way ≡ Look → u ≡ s

-- the steps of an order's packets, one after another, from a state to another
abbrev pub Goes : Function → State → List Ordered → State → Type 0
Goes f s [] t = s ≡ t
Goes f s (x ∷ xs) t = (u : State) × Steps f s x u × Goes f u xs t

pub goes_more : (f : Function) (xs : List Ordered) (s t u : State) (x : Ordered) → Goes f s xs t → Steps f t x u → Goes f s (xs ++ x ∷ []) u
goes_more f [] s t u x g one = (u, subst (λ (z : State). Steps f z x u) (sym g) one, refl)
goes_more f (y ∷ xs) s t u x g one = (g.0, g.1, goes_more f xs g.0 t u x g.2 one)

-- so the undivided run goes
pub goes_run : (f : Function) (xs : List Ordered) (s t : State) → Goes f s xs t → run f s (map handling_in xs) ≡ Some (record { state = t; answers = map answer_in xs })
goes_run f [] s t g = ap (λ (z : State). Some (record { state = z; answers = [] })) g
goes_run f (x ∷ xs) s t g =
    ap (option_and_then (λ (next : StepResult). with_answer next.done (run f next.state (map handling_in xs)))) g.1.steps
    ∙ ap (with_answer x.done) (goes_run f xs g.0 t g.2)

-- ---- a history's run

pub comes_none : (f : Function) → ComesTo f [] (opening f)
comes_none f = refl

-- a history comes to one state
pub comes_once : (f : Function) (es : List Entry) (s t : State) → ComesTo f es s → ComesTo f es t → s ≡ t
comes_once f es s t p q = ap (λ (r : RunResult). r.state) (same_Some _ _ (sym p ∙ q))

one_step : (f : Function) (s u : State) (h : Handling) (done : Done) → step f s h.packet h.choices ≡ Some (record { state = u; done = done }) → run f s (h ∷ []) ≡ Some (record { state = u; answers = done ∷ [] })
one_step f s u h done e = ap (option_and_then (λ (next : StepResult). with_answer next.done (Some (record { state = next.state; answers = [] })))) e

-- one entry more
pub comes_more : (f : Function) (es : List Entry) (e : Entry) (s u : State) → ComesTo f es s → step f s e.packet e.done.picks ≡ Some (record { state = u; done = e.done }) → ComesTo f (es ++ e ∷ []) u
comes_more f es e s u p one =
    let then_one = λ (r : RunResult). with_answers r.answers (run f r.state (handling_of e ∷ [])) in
    ap (run f (opening f)) (map-append handling_of es (e ∷ []))
    ∙ runs_part never f (opening f) (map handling_of es) (handling_of e ∷ [])
    ∙ ap (option_and_then then_one) p
    ∙ ap (with_answers (map answer_of es)) (one_step f s u (handling_of e) e.done one)
    ∙ ap (λ (ds : List Done). Some (record { state = u; answers = ds })) (sym (map-append answer_of es (e ∷ [])))

history_case : (w : Way) (f : Function) (before : List Entry) (s u : State) (x : Ordered) → x.way ≡ w → ComesTo f before s → Steps f s x u → ComesTo f (with_packet before x) u
history_case Look f before s u x e p one = subst (λ (z : List Entry). ComesTo f z u) (sym (left_by_look before x e)) (subst (ComesTo f before) (sym (one.leaves e)) p)
history_case Alone f before s u x e p one = subst (λ (z : List Entry). ComesTo f z u) (sym (grown_by_alone before x e)) (comes_more f before (entry_behind before x) s u p one.steps)

-- an order's history comes to where the order does
pub goes_history : (f : Function) (xs : List Ordered) (before : List Entry) (s t : State) → ComesTo f before s → Goes f s xs t → ComesTo f (fold with_packet before xs) t
goes_history f [] before s t p g = subst (ComesTo f before) g p
goes_history f (x ∷ xs) before s t p g = goes_history f xs (with_packet before x) g.0 t (history_case x.way f before s g.0 x refl p g.1) g.2

-- ---- a look that is put in

-- what stood is the front of what a history becomes
pub front_is : (n : ℕ) (before all : List Entry) → IsPrefix before all → n ≡ length before → take n all ≡ before
front_is n before all p e = ap (take n) (sym p.1) ∙ take_at before p.0 n (sym e)

-- what is to be shown of the packets behind a first one
abbrev GoesPut : Function → ℕ → Ordered → List Ordered → Type 0
GoesPut f n look xs = (before : List Entry) (s t q : State) → ComesTo f before s → Goes f s xs t → ComesTo f (take (length before + n) (fold with_packet before xs)) q
    → Steps f q look q → Goes f s (put_behind n look xs) t

put_here : (f : Function) (look : Ordered) (xs : List Ordered) (before : List Entry) (s t q : State) → ComesTo f before s → Goes f s xs t → ComesTo f (take (length before) (fold with_packet before xs)) q → Steps f q look q → Goes f s (look ∷ xs) t
put_here f look xs before s t q p g there one =
    let same : q ≡ s = comes_once f before q s (subst (λ (z : List Entry). ComesTo f z q) (front_is (length before) before (fold with_packet before xs) (history_prefix xs before) refl) there) p in
    (s, subst (λ (z : State). Steps f z look z) same one, g)

put_case : (w : Way) (f : Function) (n : ℕ) (look x : Ordered) (xs : List Ordered) → x.way ≡ w → ((left : ℕ) → GoesPut f left look xs)
    → (before : List Entry) (s t q : State) → ComesTo f before s → Goes f s (x ∷ xs) t → ComesTo f (take (length before + n) (fold with_packet before (x ∷ xs))) q → Steps f q look q
    → Goes f s (by_way w (x ∷ put_behind n look xs) (at_next n (look ∷ x ∷ xs) (λ left. x ∷ put_behind left look xs))) t
put_case Look f n look x xs e ih before s t q p g there one =
    let long : length (with_packet before x) ≡ length before = ap length (left_by_look before x e) in
    (g.0, g.1, ih n (with_packet before x) g.0 t q (history_case Look f before s g.0 x e p g.1) g.2 (subst (λ (k : ℕ). ComesTo f (take (k + n) (fold with_packet before (x ∷ xs))) q) (sym long) there) one)
put_case Alone f zero look x xs e ih before s t q p g there one =
    put_here f look (x ∷ xs) before s t q p g (subst (λ (k : ℕ). ComesTo f (take k (fold with_packet before (x ∷ xs))) q) (omega arith) there) one
put_case Alone f (suc n) look x xs e ih before s t q p g there one =
    let long : length (with_packet before x) ≡ length before + 1 = ap length (grown_by_alone before x e) ∙ length-append before (entry_behind before x ∷ []) in
    (g.0, g.1, ih n (with_packet before x) g.0 t q (history_case Alone f before s g.0 x e p g.1) g.2 (subst (λ (k : ℕ). ComesTo f (take k (fold with_packet before (x ∷ xs))) q) (omega (arith, long)) there) one)

-- the run goes on as it did
pub goes_put : (f : Function) (xs : List Ordered) (n : ℕ) (look : Ordered) → GoesPut f n look xs
goes_put f [] n look before s t q p g there one =
    let same : q ≡ s = comes_once f before q s (subst (λ (z : List Entry). ComesTo f z q) (take_all (length before + n) before (omega arith)) there) p in
    (s, subst (λ (z : State). Steps f z look z) same one, g)
goes_put f (x ∷ xs) n look before s t q p g there one = put_case x.way f n look x xs refl (λ left. goes_put f xs left look) before s t q p g there one

-- ---- the last entry of a history

last_step : (f : Function) (ds : List Done) (t : State) (done : Done) (o : Option StepResult) → with_answers ds (option_and_then (λ (next : StepResult). with_answer next.done (Some (record { state = next.state; answers = [] }))) o) ≡ Some (record { state = t; answers = ds ++ done ∷ [] }) → o ≡ Some (record { state = t; done = done })
last_step f ds t done None e = cc
last_step f ds t done (Some next) e =
    let both = same_Some _ _ e in
    let states : next.state ≡ t = ap (λ (r : RunResult). r.state) both in
    let answers : next.done ∷ [] ≡ done ∷ [] = append_cancel_left ds (next.done ∷ []) (done ∷ []) (ap (λ (r : RunResult). r.answers) both) in
    let dones : next.done ≡ done = cc answers in
    ap (λ (s : State). Some (record { state = s; done = next.done })) states ∙ ap (λ (d : Done). Some (record { state = t; done = d })) dones

-- the last entry of a history makes a step where the others end
pub comes_split : (f : Function) (es : List Entry) (e : Entry) (s t : State) → ComesTo f es s → ComesTo f (es ++ e ∷ []) t → step f s e.packet e.done.picks ≡ Some (record { state = t; done = e.done })
comes_split f es e s t p q =
    let then_one = λ (r : RunResult). with_answers r.answers (run f r.state (handling_of e ∷ [])) in
    last_step f (map answer_of es) t e.done (step f s e.packet e.done.picks)
    (sym (ap (option_and_then then_one) p)
    ∙ sym (runs_part never f (opening f) (map handling_of es) (handling_of e ∷ []))
    ∙ ap (run f (opening f)) (sym (map-append handling_of es (e ∷ [])))
    ∙ q
    ∙ ap (λ (ds : List Done). Some (record { state = t; answers = ds })) (map-append answer_of es (e ∷ [])))

-- a history that is the front of one with a run has a run
same_front : (xs ys cs ds : List Done) → length xs ≡ length ys → xs ++ cs ≡ ys ++ ds → xs ≡ ys
same_front [] [] cs ds n e = refl
same_front [] (y ∷ ys) cs ds n e = absurd (omega (arith, n))
same_front (x ∷ xs) [] cs ds n e = absurd (omega (arith, n))
same_front (x ∷ xs) (y ∷ ys) cs ds n e =
    let heads : x ≡ y = cc e in
    let rest = same_front xs ys cs ds (omega (arith, n)) (cc e) in
    cc (heads, rest)

front_answers : (f : Function) (r : RunResult) (before rest : List Done) (t : State) (o : Option RunResult) → length r.answers ≡ length before → with_answers r.answers o ≡ Some (record { state = t; answers = before ++ rest }) → r.answers ≡ before
front_answers f r before rest t None n e = cc
front_answers f r before rest t (Some x) n e = same_front r.answers before x.answers rest n (ap (λ (y : RunResult). y.answers) (same_Some _ _ e))

front_runs : (f : Function) (es rest : List Entry) (t : State) (o : Option RunResult) → run f (opening f) (map handling_of es) ≡ o
    → option_and_then (λ (r : RunResult). with_answers r.answers (run f r.state (map handling_of rest))) o ≡ Some (record { state = t; answers = map answer_of (es ++ rest) }) → (u : State) × ComesTo f es u
front_runs f es rest t None p e = cc
front_runs f es rest t (Some r) p e =
    let long : length r.answers ≡ length (map answer_of es) = answer_each never f (opening f) (map handling_of es) r p ∙ length-map es handling_of ∙ sym (length-map es answer_of) in
    let same : r.answers ≡ map answer_of es = front_answers f r (map answer_of es) (map answer_of rest) t (run f r.state (map handling_of rest)) long (e ∙ ap (λ (ds : List Done). Some (record { state = t; answers = ds })) (map-append answer_of es rest)) in
    (r.state, p ∙ ap (λ (ds : List Done). Some (record { state = r.state; answers = ds })) same)

pub comes_prefix : (f : Function) (es all : List Entry) (t : State) → IsPrefix es all → ComesTo f all t → (u : State) × ComesTo f es u
comes_prefix f es all t p q =
    let whole : ComesTo f (es ++ p.0) t = subst (λ (z : List Entry). ComesTo f z t) (sym p.1) q in
    front_runs f es p.0 t (run f (opening f) (map handling_of es)) refl
    (sym (runs_part never f (opening f) (map handling_of es) (map handling_of p.0)) ∙ ap (run f (opening f)) (sym (map-append handling_of es p.0)) ∙ whole)
