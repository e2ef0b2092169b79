-- A look in tables that were made anew.
use Rattle.std.proofs.Common.{◌≡◌, ℕ, zero, suc, ◌+◌, ◌<◌, true, List, [], ◌∷◌, ◌++◌, length, fold, take, drop, get_or, Some, refl, sym, ap, ◌∙◌, subst, arith, take-append-drop, true≢false}
use Rattle.std.proofs.lemmas.Option.{same_Some}
use Rattle.std.proofs.lemmas.List.{take_more}
use Rattle.std.proofs.lemmas.List.Sums.{fold-append}
use mathlib.Core.List.{IsPrefix}
use Rattle.nf_base.specs.declared.packet.Packet.{Packet}
use Rattle.nf_base.specs.declared.state.State.{State}
use Rattle.nf_base.specs.declared.done.Done.{Done}
use Rattle.nf_base.specs.Text.{Function}
use Rattle.nf_base.specs.Step.{step, quiet}
use Rattle.vig_tables.specs.TablesState.{TablesState}
use Rattle.nf_engine.specs.View.{Fixed, fixed_of}
use Rattle.nf_engine.specs.Looks.{IfDone, IfNeedsWrite, IsQuietStep, AlwaysWrites}
use Rattle.nf_engine.specs.declared.context.Look as look
use Rattle.nf_engine.specs.declared.context.Look.TheVariants as seen
use Rattle.lock_core.specs.declared.call.Way.{Way}
use Rattle.lock_core.specs.declared.call.Way.TheVariants.{Look, Alone}
use Rattle.lock_core.specs.declared.call.Entry.{Entry}
use Rattle.lock_core.specs.declared.call.Ordered.{Ordered}
use Rattle.lock_core.specs.Calls.{entry_behind, with_packet, history}
use Rattle.lock_core.specs.Events.{ComesTo, IsLook, IsQuietBehind}
use Rattle.lock_core.specs.Steps.{IsIn, AreIn, place_behind}
use Rattle.lock_core.specs.Replays.{StepsAlone, GoesAlone, AreBehind}
use Rattle.lock_core.proofs.Orders.{left_by_look, grown_by_alone, history_prefix}
use Rattle.lock_core.proofs.Going.{comes_once, comes_more, comes_split, comes_prefix}
use Rattle.lock_core.proofs.Places.{history_front}
use Rattle.lock_core.proofs.Playing.{quiet_steps}

pub look_is : (f : Function) (es : List Entry) (s : State) (packet : Packet) (done : Done) → ComesTo f es s → IsQuietStep f s packet done → IsLook f es packet done
look_is f es s packet done comes q = record { state = s; comes = comes; steps = q.step_is; is_quiet = q.quiet_is }

pub not_quiet : (f : Function) (es : List Entry) (s : State) (packet : Packet) → ComesTo f es s → AlwaysWrites f s packet → IsQuietBehind f es packet → ⊥
not_quiet f es s packet comes writes q =
    let same : q.state ≡ s = comes_once f es q.state s q.comes comes in
    let here : quiet f s packet [] ≡ Some true = subst (λ (t : State). quiet f t packet [] ≡ Some true) same q.is_quiet in
    let found = quiet_steps (step f s packet []) _ here in
    true≢false (same_Some _ _ (sym here ∙ writes [] found.0 found.1))

-- a look's answer shows that its packet is quiet there
pub quiet_is : (f : Function) (es : List Entry) (packet : Packet) (done : Done) → IsLook f es packet done → IsQuietBehind f es packet
quiet_is f es packet done l = record { state = l.state; comes = l.comes; is_quiet = l.is_quiet }

-- ---- a packet more

pub in_at : (f : Function) (xs : List Ordered) (i : ℕ) (x : Ordered) → i < length xs → x ≡ get_or xs i x → AreIn f xs → IsIn f x.packet
in_at f [] i x lt is all = absurd (omega (arith, lt))
in_at f (y ∷ xs) zero x lt is all = subst (λ (z : Ordered). IsIn f z.packet) (sym is) all.0
in_at f (y ∷ xs) (suc i) x lt is all = in_at f xs i x (omega (arith, lt)) is all.1

-- so did those of a part of an order
pub in_front : (k : ℕ) (f : Function) (xs : List Ordered) → AreIn f xs → AreIn f (take k xs)
in_front zero f xs all = tt
in_front (suc k) f [] all = tt
in_front (suc k) f (x ∷ xs) all = (all.0, in_front k f xs all.1)

one_on : (xs : List Ordered) (i : ℕ) (x : Ordered) → i < length xs → x ≡ get_or xs i x → history (take (i + 1) xs) ≡ with_packet (history (take i xs)) x
one_on xs i x lt is = ap history (take_more xs i x lt ∙ ap (λ (y : Ordered). take i xs ++ y ∷ []) (sym is)) ∙ fold-append with_packet [] (take i xs) (x ∷ [])

front_grows : (xs : List Ordered) (k : ℕ) → IsPrefix (history (take k xs)) (history xs)
front_grows xs k =
    let whole : history xs ≡ fold with_packet (history (take k xs)) (drop k xs) = ap history (sym (take-append-drop k xs)) ∙ fold-append with_packet [] (take k xs) (drop k xs) in
    subst (IsPrefix (history (take k xs))) (sym whole) (history_prefix (drop k xs) (history (take k xs)))

steps_case : (w : Way) (f : Function) (before : List Entry) (x : Ordered) (s t : State) → x.way ≡ w → ComesTo f before s → ComesTo f (with_packet before x) t → StepsAlone f s w x
steps_case Look f before x s t e p q = tt
steps_case Alone f before x s t e p q = (t, comes_split f before (entry_behind before x) s t p (subst (λ (es : List Entry). ComesTo f es t) (grown_by_alone before x e) q))

-- the next packet makes its step
pub next_steps : (f : Function) (xs : List Ordered) (i : ℕ) (x : Ordered) (t : TablesState) → i < length xs → x ≡ get_or xs i x → AreBehind f (history (take i xs)) t → (s : State) × ComesTo f (history xs) s → StepsAlone f t.state x.way x
next_steps f xs i x t lt is at all =
    let more = comes_prefix f (history (take (i + 1) xs)) (history xs) all.0 (front_grows xs (i + 1)) all.1 in
    steps_case x.way f (history (take i xs)) x t.state more.0 refl at.comes (subst (λ (es : List Entry). ComesTo f es more.0) (one_on xs i x lt is) more.1)

goes_case : (w : Way) (f : Function) (before : List Entry) (x : Ordered) (s u : State) → x.way ≡ w → ComesTo f before s → GoesAlone f s w x u → ComesTo f (with_packet before x) u
goes_case Look f before x s u e p q = subst (λ (es : List Entry). ComesTo f es u) (sym (left_by_look before x e)) (subst (ComesTo f before) (sym q) p)
goes_case Alone f before x s u e p q = subst (λ (es : List Entry). ComesTo f es u) (sym (grown_by_alone before x e)) (comes_more f before (entry_behind before x) s u p q)

-- and the tables go on
pub next_behind : (f : Function) (xs : List Ordered) (i : ℕ) (x : Ordered) (t u : TablesState) → i < length xs → x ≡ get_or xs i x → AreBehind f (history (take i xs)) t → GoesAlone f t.state x.way x u.state → fixed_of u ≡ fixed_of t → AreBehind f (history (take (i + 1) xs)) u
next_behind f xs i x t u lt is at goes same = record {
  decls = ap (λ (z : Fixed). z.decls) same ∙ at.decls;
  whole = ap (λ (z : Fixed). z.share.of) same ∙ at.whole;
  comes = subst (λ (es : List Entry). ComesTo f es u.state) (sym (one_on xs i x lt is)) (goes_case x.way f (history (take i xs)) x t.state u.state refl at.comes goes);
}

-- the front of an order's history has a run
pub front_comes : (f : Function) (xs : List Ordered) (k : ℕ) → (s : State) × ComesTo f (history xs) s → (s : State) × ComesTo f (history (take k xs)) s
front_comes f xs k all = comes_prefix f (history (take k xs)) (history xs) all.0 (front_grows xs k) all.1

-- ---- what a look comes to

pub seen_done : (l : look.Look) (f : Function) (es : List Entry) (s : State) (packet : Packet) → ComesTo f es s → IfDone l (λ (d : Done). IsQuietStep f s packet d) → IfDone l (λ (d : Done). IsLook f es packet d)
seen_done (seen.Done d) f es s packet comes q = look_is f es s packet d comes q
seen_done seen.NeedsWrite f es s packet comes q = tt

pub seen_needs : (l : look.Look) (f : Function) (es : List Entry) (s : State) (packet : Packet) → ComesTo f es s → IfNeedsWrite l (AlwaysWrites f s packet) → IfNeedsWrite l (IsQuietBehind f es packet → ⊥)
seen_needs (seen.Done d) f es s packet comes q = tt
seen_needs seen.NeedsWrite f es s packet comes q = not_quiet f es s packet comes q

-- where tables stand that were brought behind so many entries
pub comes_at : (f : Function) (xs : List Ordered) (n k : ℕ) (t : TablesState) → k ≡ place_behind n xs → AreBehind f (history (take k xs)) t → ComesTo f (take n (history xs)) t.state
comes_at f xs n k t e at = subst (λ (es : List Entry). ComesTo f es t.state) (ap (λ (j : ℕ). history (take j xs)) e ∙ history_front xs n) at.comes
