-- How the entries of a history are numbered.
use Rattle.std.proofs.Common.{◌≡◌, ℕ, zero, suc, ◌==◌, Bool, true, false, List, [], ◌∷◌, ◌++◌, length, fold, cond, slice_get, Some, refl, sym, ap, ◌∙◌, subst, append-nil, ◌⊎◌, inl, inr, ⊎_elim, eqb-true}
use Rattle.std.proofs.lemmas.Option.{same_Some}
use Rattle.std.proofs.lemmas.List.Elements.{filter-append}
use Rattle.lock_core.specs.declared.call.Way.{Way}
use Rattle.lock_core.specs.declared.call.Way.TheVariants.{Look, Alone}
use Rattle.lock_core.specs.declared.call.Entry.{Entry}
use Rattle.lock_core.specs.declared.call.Ordered.{Ordered}
use Rattle.lock_core.specs.Calls.{count_of, entry_behind, with_packet}
use Rattle.lock_core.specs.Histories.{entries_of, AreNumbered}
use Rattle.lock_core.proofs.Orders.{left_by_look, grown_by_alone}

-- what stands at an index of a list with one element more
at_end : {A : Type 0} (xs : List A) (y : A) (k : ℕ) (z : A) → slice_get (xs ++ y ∷ []) k ≡ Some z → (slice_get xs k ≡ Some z) ⊎ ((k ≡ length xs) × (y ≡ z))
at_end [] y zero z e = inr (refl, same_Some _ _ e)
at_end [] y (suc k) z e = cc
at_end (x ∷ xs) y zero z e = inl e
at_end (x ∷ xs) y (suc k) z e = ⊎_elim (λ (i : slice_get xs k ≡ Some z). inl i) (λ (i : (k ≡ length xs) × (y ≡ z)). inr (ap suc i.0, i.1)) (at_end xs y k z e)

number_case : (own : Bool) (es : List Entry) (e : Entry) (seat k : ℕ) (z : Entry) → AreNumbered es → (own ≡ true → e.number ≡ length (entries_of seat es)) → slice_get (entries_of seat es ++ cond own (e ∷ []) []) k ≡ Some z → z.number ≡ k
number_case true es e seat k z numbered is at =
    ⊎_elim (λ (i : slice_get (entries_of seat es) k ≡ Some z). numbered seat k z i)
    (λ (i : (k ≡ length (entries_of seat es)) × (e ≡ z)). ap (λ (x : Entry). x.number) (sym i.1) ∙ is refl ∙ sym i.0)
    (at_end (entries_of seat es) e k z at)
number_case false es e seat k z numbered is at = numbered seat k z (ap (λ xs. slice_get xs k) (sym (append-nil (entries_of seat es))) ∙ at)

-- an entry with the number that comes next at its seat
pub number_next : (es : List Entry) (e : Entry) → AreNumbered es → e.number ≡ count_of e.seat es → AreNumbered (es ++ e ∷ [])
number_next es e numbered next seat k z at =
    number_case (e.seat == seat) es e seat k z numbered
    (λ own. next ∙ ap (λ (s : ℕ). count_of s es) (eqb-true e.seat seat own))
    (ap (λ xs. slice_get xs k) (sym (filter-append (λ (x : Entry). x.seat == seat) es (e ∷ []))) ∙ at)

number_one : (w : Way) (es : List Entry) (x : Ordered) → x.way ≡ w → AreNumbered es → AreNumbered (with_packet es x)
number_one Look es x e numbered = subst AreNumbered (sym (left_by_look es x e)) numbered
number_one Alone es x e numbered = subst AreNumbered (sym (grown_by_alone es x e)) (number_next es (entry_behind es x) numbered refl)

pub are_numbered : (xs : List Ordered) (es : List Entry) → AreNumbered es → AreNumbered (fold with_packet es xs)
are_numbered [] es numbered = numbered
are_numbered (x ∷ xs) es numbered = are_numbered xs (with_packet es x) (number_one x.way es x refl numbered)

pub none_numbered : AreNumbered []
none_numbered seat k z at = cc
