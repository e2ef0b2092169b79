-- What the search for a key finds, and what a pair put where it stops leaves.
use Rattle.std.proofs.Common.{◌≡◌, ◌≢◌, ◌∙◌, ap, sym, subst, arith, ℕ, ◌+◌, ◌-◌, ◌/◌, ◌^◌, ◌<◌, ◌≤◌, List, length, inl, inr}
use Rattle.std.specs.Prelude.{Option, Some, None, slice_set, IsSome}
use Rattle.std.proofs.lemmas.Option.{none-some, same_Some}
use Rattle.std.proofs.lemmas.Bool.{cases_eq, cases_lt}
use Rattle.std.proofs.lemmas.Nat.{mod_below}
use Rattle.vig_map.specs.declared.slots.Pair.{Pair}
use Rattle.vig_map.specs.Hashes.{first_slot, hash_of}
use Rattle.vig_map.specs.Slots.{slot_at, pairs_of, IsPassed, IsStop, AreMet}
use Rattle.vig_map.proofs.SlotLemmas.{slot-set_same, slot-set_other, some_from, no_none, filled_run}

pub first_below : (starts : ℕ) (key : List ℕ) → 0 < starts → first_slot starts key < starts
unfolding first_slot
first_below starts key some = mod_below (hash_of key / 2 ^ 32) starts some

-- the search that stops at an empty slot has missed no pair of the key
pub missed :
    (starts : ℕ) (slots : List (Option Pair)) (key : List ℕ) (i : ℕ) → AreMet starts slots
    → IsStop slots (first_slot starts key) key i → slot_at slots i ≡ None → (j : ℕ) (p : Pair)
    → slot_at slots j ≡ Some p → p.key ≢ key
missed starts slots key i met stop none j p there same = elim (cases_lt j i) [
  | inl lt ↦
      let pass = stop.passed j (omega (arith, met.after j p there, at_first)) lt in
      pass.other (ap (λ (x : Pair). x.key) (same_Some pass.pair p (sym pass.there ∙ there)) ∙ same)
  | inr ge ↦ elim (cases_eq j i) [
    | inl e ↦ none-some p (sym none ∙ sym (ap (slot_at slots) e) ∙ there)
    | inr ne ↦ no_none (slot_at slots i) none (met.reached j p there i (omega (arith, stop.from_on, at_first)) (omega arith))
  ]
]
  where
    at_first : first_slot starts p.key ≡ first_slot starts key
    at_first = ap (first_slot starts) same

passed_some :
    (slots : List (Option Pair)) (key : List ℕ) (i : ℕ) → IsPassed slots key i
    → IsSome (slot_at slots i)
passed_some slots key i pass = some_from (slot_at slots i) pass.pair pass.there

-- the search goes past as many slots as there are pairs at most
pub stop_near :
    (slots : List (Option Pair)) (from : ℕ) (key : List ℕ) (i : ℕ) → IsStop slots from key i
    → i ≤ from + length (pairs_of slots)
stop_near slots from key i stop = omega (arith, filled_run slots from (i - from) (λ x ge lt. passed_some slots key x (stop.passed x ge (omega (arith, stop.from_on)))), stop.from_on)

pub put_met :
    (starts : ℕ) (slots : List (Option Pair)) (i : ℕ) (p : Pair) → AreMet starts slots
    → IsStop slots (first_slot starts p.key) p.key i → slot_at slots i ≡ None → i < length slots
    → AreMet starts (slice_set slots i (Some p))
put_met starts slots i p met stop none lt = record {
  after = λ j q at. elim (cases_eq j i) [
    | inl e ↦ omega (arith, ap (λ (x : Pair). first_slot starts x.key) (new j q e at), stop.from_on)
    | inr ne ↦ met.after j q (old j q ne at)
  ];
  reached = λ j q at x ge x_lt. elim (cases_eq x i) [
    | inl f ↦ some_from (slot_at (slice_set slots i (Some p)) x) p (ap (slot_at (slice_set slots i (Some p))) f ∙ slot-set_same slots i (Some p) lt)
    | inr nf ↦ subst (λ (o : Option Pair). IsSome o) (sym (slot-set_other slots i x (Some p) nf)) (elim (cases_eq j i) [
      | inl e ↦ passed_some slots p.key x (stop.passed x (omega (arith, ap (λ (y : Pair). first_slot starts y.key) (new j q e at))) (omega arith))
      | inr ne ↦ met.reached j q (old j q ne at) x ge x_lt
    ])
  ];
  apart = λ j k q r at_j at_k same. elim (cases_eq j i) [
    | inl e ↦ elim (cases_eq k i) [
      | inl f ↦ e ∙ sym f
      | inr nf ↦ absurd (missed starts slots p.key i met stop none k r (old k r nf at_k) (sym same ∙ sym (ap (λ (y : Pair). y.key) (new j q e at_j))))
    ]
    | inr ne ↦ elim (cases_eq k i) [
      | inl f ↦ absurd (missed starts slots p.key i met stop none j q (old j q ne at_j) (same ∙ sym (ap (λ (y : Pair). y.key) (new k r f at_k))))
      | inr nf ↦ met.apart j k q r (old j q ne at_j) (old k r nf at_k) same
    ]
  ];
}
  where
    new : (j : ℕ) (q : Pair) → j ≡ i → slot_at (slice_set slots i (Some p)) j ≡ Some q → p ≡ q
    new j q e at = same_Some p q (sym (slot-set_same slots i (Some p) lt) ∙ ap (slot_at (slice_set slots i (Some p))) (sym e) ∙ at)

    old :
        (j : ℕ) (q : Pair) → j ≢ i → slot_at (slice_set slots i (Some p)) j ≡ Some q
        → slot_at slots j ≡ Some q
    old j q ne at = sym (slot-set_other slots i j (Some p) ne) ∙ at
