-- What the search for a pair finds, and what a pair put where it stops leaves.
use Rattle.std.proofs.Common.{◌≡◌, ◌≢◌, ◌∙◌, ap, sym, subst, arith, ℕ, ◌+◌, ◌-◌, ◌<◌, ◌≤◌, List, length, inl, inr}
use Rattle.std.specs.Prelude.{Option, Some, None, slice_set, IsSome}
use Rattle.std.proofs.lemmas.Option.{none-some, same_Some}
use Rattle.std.proofs.lemmas.Bool.{cases_eq, cases_lt}
use Rattle.std.proofs.lemmas.Nat.{and_le_r}
use Rattle.hash_slots.specs.declared.cells.Pair.{Pair}
use Rattle.hash_slots.specs.Places.{home, slot_at, pairs_of, IsPassed, IsStop, AreMet}
use Rattle.hash_slots.proofs.SlotLemmas.{slot-set_same, slot-set_other, some_from, no_none, filled_run}

pub home_below : (mask tag : ℕ) → home mask tag ≤ mask
unfolding home
home_below mask tag = and_le_r tag mask

-- the search that stops at an empty slot has missed no pair of the key
pub missed :
    (mask : ℕ) (slots : List (Option Pair)) (key : Pair) (i : ℕ) → AreMet mask slots
    → IsStop slots (home mask key.tag) key i → slot_at slots i ≡ None → (j : ℕ) (p : Pair)
    → slot_at slots j ≡ Some p → p ≢ key
missed mask slots key i met stop none j p there same = elim (cases_lt j i) [
  | inl lt ↦
      let pass = stop.passed j (omega (arith, met.after j p there, at_first)) lt in
      pass.other (same_Some pass.pair p (sym pass.there ∙ there) ∙ same)
  | inr ge ↦ elim (cases_eq j i) [
    | inl e ↦ none-some p (sym none ∙ sym (ap (slot_at slots) e) ∙ there)
    | inr ne ↦ no_none (slot_at slots i) none (met.reached j p there i (omega (arith, stop.from_on, at_first)) (omega arith))
  ]
]
  where
    at_first : home mask p.tag ≡ home mask key.tag
    at_first = ap (λ (x : Pair). home mask x.tag) same

passed_some :
    (slots : List (Option Pair)) (key : Pair) (i : ℕ) → IsPassed slots key i
    → IsSome (slot_at slots i)
passed_some slots key i pass = some_from (slot_at slots i) pass.pair pass.there

-- the search goes past as many slots as there are pairs at most
pub stop_near :
    (slots : List (Option Pair)) (from : ℕ) (key : Pair) (i : ℕ) → IsStop slots from key i
    → i ≤ from + length (pairs_of slots)
stop_near slots from key i stop = omega (arith, filled_run slots from (i - from) (λ x ge lt. passed_some slots key x (stop.passed x ge (omega (arith, stop.from_on)))), stop.from_on)

pub put_met :
    (mask : ℕ) (slots : List (Option Pair)) (i : ℕ) (p : Pair) → AreMet mask slots
    → IsStop slots (home mask p.tag) p i → slot_at slots i ≡ None → i < length slots
    → AreMet mask (slice_set slots i (Some p))
put_met mask slots i p met stop none lt = record {
  after = λ j q at. elim (cases_eq j i) [
    | inl e ↦ omega (arith, ap (λ (x : Pair). home mask x.tag) (new j q e at), stop.from_on)
    | inr ne ↦ met.after j q (old j q ne at)
  ];
  reached = λ j q at x ge x_lt. elim (cases_eq x i) [
    | inl f ↦ some_from (slot_at (slice_set slots i (Some p)) x) p (ap (slot_at (slice_set slots i (Some p))) f ∙ slot-set_same slots i (Some p) lt)
    | inr nf ↦ subst (λ (o : Option Pair). IsSome o) (sym (slot-set_other slots i x (Some p) nf)) (elim (cases_eq j i) [
      | inl e ↦ passed_some slots p x (stop.passed x (omega (arith, ap (λ (y : Pair). home mask y.tag) (new j q e at))) (omega arith))
      | inr ne ↦ met.reached j q (old j q ne at) x ge x_lt
    ])
  ];
  apart = λ j k q r at_j at_k same. elim (cases_eq j i) [
    | inl e ↦ elim (cases_eq k i) [
      | inl f ↦ e ∙ sym f
      | inr nf ↦ absurd (missed mask slots p i met stop none k r (old k r nf at_k) (sym same ∙ sym (new j q e at_j)))
    ]
    | inr ne ↦ elim (cases_eq k i) [
      | inl f ↦ absurd (missed mask slots p i met stop none j q (old j q ne at_j) (same ∙ sym (new k r f at_k)))
      | inr nf ↦ met.apart j k q r (old j q ne at_j) (old k r nf at_k) same
    ]
  ];
}
  where
    new : (j : ℕ) (q : Pair) → j ≡ i → slot_at (slice_set slots i (Some p)) j ≡ Some q → p ≡ q
    new j q e at = same_Some p q (sym (slot-set_same slots i (Some p) lt) ∙ ap (slot_at (slice_set slots i (Some p))) (sym e) ∙ at)

    old :
        (j : ℕ) (q : Pair) → j ≢ i → slot_at (slice_set slots i (Some p)) j ≡ Some q
        → slot_at slots j ≡ Some q
    old j q ne at = sym (slot-set_other slots i j (Some p) ne) ∙ at
