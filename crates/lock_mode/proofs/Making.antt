-- A seat's calls, as it sees more of the history.
use Rattle.std.proofs.Common.{◌≡◌, ◌⊎◌, inl, inr, ℕ, zero, suc, ◌+◌, ◌≤◌, ◌<◌, List, [], ◌∷◌, ◌++◌, length, take, Some, slice_get, refl, ap, sym, ◌∙◌, subst, arith, ⊎_elim, le_refl, le_trans, length-append, take_all}
use Rattle.std.proofs.lemmas.List.{take-append-le, take_at}
use Rattle.std.proofs.lemmas.Option.{slice_get_within, same_Some}
use mathlib.Core.List.{IsPrefix}
use Rattle.nf_base.specs.declared.packet.Packet.{Packet}
use Rattle.nf_base.specs.declared.done.Done as answered
use Rattle.nf_base.specs.Text.{Function}
use Rattle.lock_core.specs.declared.call.Way.{Way}
use Rattle.lock_core.specs.declared.call.Way.TheVariants as way
use Rattle.lock_core.specs.declared.call.Entry.{Entry}
use Rattle.lock_core.specs.declared.call.Call.{Call}
use Rattle.lock_core.specs.declared.call.Placed.{Placed}
use Rattle.lock_core.specs.Events.{IsLook, IsStep}
use Rattle.lock_mode.specs.declared.look_result.LookResult.{LookResult}
use Rattle.lock_mode.specs.declared.look_result.LookResult.TheVariants.{Done, NeedsWrite, Refused}
use Rattle.lock_mode.specs.Alone.{IsAlone}
use Rattle.lock_mode.specs.Looks.{IfDone, IfNeedsWrite, IfRefused}
use Rattle.lock_mode.specs.Seats.{entry_of, IsMadeBy, AreMade, IsSeat}
use Rattle.lock_mode.proofs.Fronts.{prefix_get, prefix_length, prefix_trans}

-- what stands at an index of a list with one element more
pub last_at : {A : Type 0} (xs : List A) (y : A) (k : ℕ) (z : A) → slice_get (xs ++ y ∷ []) k ≡ Some z → (slice_get xs k ≡ Some z) ⊎ ((k ≡ length xs) × (y ≡ z))
last_at [] y zero z e = inr (refl, same_Some _ _ e)
last_at [] y (suc k) z e = cc
last_at (x ∷ xs) y zero z e = inl e
last_at (x ∷ xs) y (suc k) z e = ⊎_elim (λ (t : slice_get xs k ≡ Some z). inl t) (λ (t : (k ≡ length xs) × (y ≡ z)). inr (ap suc t.0, t.1)) (last_at xs y k z e)

-- the front of a list is that of what begins with it
pub take_prefix : {A : Type 0} (xs ys : List A) (n : ℕ) → IsPrefix xs ys → n ≤ length xs → take n ys ≡ take n xs
take_prefix xs ys n p le = ap (take n) (sym p.1) ∙ take-append-le n xs p.0 le

-- what was made in what had been seen stands in what is then seen
by_more : (w : Way) (f : Function) (seat : ℕ) (seen new : List Entry) (c : Call) → IsPrefix seen new → IsMadeBy w f seat seen c → IsMadeBy w f seat new c
by_more way.Look f seat seen new c p made =
    let prefix = take_prefix seen new c.place p made.0 in
    let long = prefix_length seen new p in
    (le_trans made.0 long, subst (λ (es : List Entry). IsLook f es c.packet c.done) (sym prefix) made.1)
by_more way.Alone f seat seen new c p made =
    let within = slice_get_within seen c.place _ made.0 in
    let prefix = take_prefix seen new c.place p (omega (arith, within)) in (
      prefix_get seen new c.place _ p made.0 ∙ ap (λ (es : List Entry). Some (entry_of seat es c.packet c.done)) (sym prefix),
      subst (λ (es : List Entry). IsStep f es c.packet c.done) (sym prefix) made.1,
    )

pub made_more : (f : Function) (seat : ℕ) (seen new : List Entry) (calls : List Call) → IsPrefix seen new → AreMade f seat seen calls → AreMade f seat new calls
made_more f seat seen new calls p made k c at = by_more c.way f seat seen new c p (made k c at)

-- one call more
pub one_made : (f : Function) (seat : ℕ) (seen : List Entry) (calls : List Call) (c : Call) → AreMade f seat seen calls → IsMadeBy c.way f seat seen c → AreMade f seat seen (calls ++ c ∷ [])
one_made f seat seen calls c made one k d at =
    ⊎_elim (λ (t : slice_get calls k ≡ Some d). made k d t)
    (λ (t : (k ≡ length calls) × (c ≡ d)). subst (λ (x : Call). IsMadeBy x.way f seat seen x) t.1 one) (last_at calls c k d at)

-- ---- a look

whole_prefix : (es : List Entry) → take (length es) es ≡ es
whole_prefix es = take_all (length es) es (le_refl (length es))

looked_case : (l : LookResult) (f : Function) (seats seat : ℕ) (seen new : List Entry) (packet : Packet) (calls put : List Call) → IsPrefix seen new → IsSeat f seats seat seen calls
    → IfDone l (λ (d : answered.Done). IsLook f new packet d) → IfDone l (λ (d : answered.Done). put ≡ calls ++ record { way = way.Look; place = length new; packet = packet; done = d } ∷ []) → IfNeedsWrite l (put ≡ calls) → IfRefused l (put ≡ calls) → IsSeat f seats seat new put
looked_case (Done d) f seats seat seen new packet calls put p s look done needs refused =
    let c : Call = record { way = way.Look; place = length new; packet = packet; done = d } in
    let is : IsLook f (take (length new) new) packet d = subst (λ (es : List Entry). IsLook f es packet d) (sym (whole_prefix new)) look in
    record { below = s.below; made = subst (AreMade f seat new) (sym done) (one_made f seat new calls c (made_more f seat seen new calls p s.made) (le_refl (length new), is)) }
looked_case NeedsWrite f seats seat seen new packet calls put p s look done needs refused =
    record { below = s.below; made = subst (AreMade f seat new) (sym needs) (made_more f seat seen new calls p s.made) }
looked_case Refused f seats seat seen new packet calls put p s look done needs refused =
    record { below = s.below; made = subst (AreMade f seat new) (sym refused) (made_more f seat seen new calls p s.made) }

pub seat_looked : (l : LookResult) (f : Function) (seats seat : ℕ) (seen new : List Entry) (packet : Packet) (calls put : List Call) → IsPrefix seen new → IsSeat f seats seat seen calls
    → IfDone l (λ (d : answered.Done). IsLook f new packet d) → IfDone l (λ (d : answered.Done). put ≡ calls ++ record { way = way.Look; place = length new; packet = packet; done = d } ∷ []) → IfNeedsWrite l (put ≡ calls) → IfRefused l (put ≡ calls) → IsSeat f seats seat new put
seat_looked l f seats seat seen new packet calls put p s look done needs refused = looked_case l f seats seat seen new packet calls put p s look done needs refused

-- ---- what was handled alone

at_length : {A : Type 0} (xs : List A) (y : A) → slice_get (xs ++ y ∷ []) (length xs) ≡ Some y
at_length [] y = refl
at_length (x ∷ xs) y = at_length xs y

pub seat_stands : (f : Function) (seats seat : ℕ) (seen new : List Entry) (packet : Packet) (placed : Placed) (calls put : List Call) → IsAlone f seen seat packet placed new → IsSeat f seats seat seen calls
    → put ≡ calls ++ record { way = way.Alone; place = placed.place; packet = packet; done = placed.done } ∷ [] → IsSeat f seats seat new put
seat_stands f seats seat seen new packet placed calls put a s is =
    let e : Entry = entry_of seat a.before packet placed.done in
    let c : Call = record { way = way.Alone; place = placed.place; packet = packet; done = placed.done } in
    let first : IsPrefix a.before new = (e ∷ [], sym a.history) in
    let prefix : take placed.place new ≡ a.before = ap (λ (k : ℕ). take k new) a.place ∙ (take_prefix a.before new (length a.before) first (le_refl _) ∙ whole_prefix a.before) in
    let stands : slice_get new placed.place ≡ Some (entry_of seat (take placed.place new) packet placed.done) =
    ap (λ (k : ℕ). slice_get new k) a.place ∙ (ap (λ (es : List Entry). slice_get es (length a.before)) a.history ∙ (at_length a.before e ∙ ap (λ (es : List Entry). Some (entry_of seat es packet placed.done)) (sym prefix))) in
    let steps : IsStep f (take placed.place new) packet placed.done = subst (λ (es : List Entry). IsStep f es packet placed.done) (sym prefix) a.steps in
    record { below = s.below; made = subst (AreMade f seat new) (sym is) (one_made f seat new calls c (made_more f seat seen new calls (prefix_trans seen a.before new a.begins first) s.made) (stands, steps)) }

none_at : (k : ℕ) (c : Call) → slice_get [] k ≡ Some c → ⊥
none_at k c at = cc

-- a seat that has done nothing
pub seat_opens : (f : Function) (seats seat : ℕ) (seen : List Entry) (calls : List Call) → seat < seats → calls ≡ [] → IsSeat f seats seat seen calls
seat_opens f seats seat seen calls below none = record { below = below; made = λ k c at. absurd (none_at k c (ap (λ cs. slice_get cs k) (sym none) ∙ at)) }

-- what is equal has equal parts, where something would be written, and where the gate refused
pub needs_ap : {A B : Type 0} (l : LookResult) (f : A → B) (x y : A) → IfNeedsWrite l (x ≡ y) → IfNeedsWrite l (f x ≡ f y)
needs_ap (Done d) f x y h = tt
needs_ap NeedsWrite f x y h = ap f h
needs_ap Refused f x y h = tt

pub refused_ap : {A B : Type 0} (l : LookResult) (f : A → B) (x y : A) → IfRefused l (x ≡ y) → IfRefused l (f x ≡ f y)
refused_ap (Done d) f x y h = tt
refused_ap NeedsWrite f x y h = tt
refused_ap Refused f x y h = ap f h
