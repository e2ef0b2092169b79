-- What the search for a key comes to, in the list of pairs.
use Rattle.std.proofs.Common.{◌≡◌, ◌∙◌, ap, sym, refl, subst, arith, ℕ, ◌<◌, ◌≤◌, List, Bool, true, false, inl, inr}
use Rattle.std.specs.Prelude.{Option, Some, None, IfSome, IfNone, Contains}
use Rattle.std.proofs.lemmas.Option.{none-some, same_Some}
use Rattle.std.proofs.lemmas.Bool.{cases_eq, cases_lt}
use Rattle.hash_slots.specs.declared.cells.Pair.{Pair}
use Rattle.hash_slots.specs.Places.{home, slot_at, pairs_of, IsMissed, AreMet}
use Rattle.hash_slots.specs.Tags.{pair_of}
use Rattle.hash_slots.proofs.SlotLemmas.{no_none}
use Rattle.hash_slots.proofs.Members.{listed, placed}

pub found_held :
    (answers : ℕ → Bool → Type 0) (slots : List (Option Pair)) (tag at : ℕ) (o : Option ℕ)
    → IfSome o (λ index. (slot_at slots at ≡ Some (record { tag = tag; index = index })) × answers index true)
    → IfSome o (λ index. Contains (pairs_of slots) (pair_of tag index) × answers index true)
found_held answers slots tag at None h = tt
found_held answers slots tag at (Some i) h = (listed slots at (pair_of tag i) h.0, h.1)

-- the search that ends at an empty slot has gone past each pair of the tag
went_past :
    (answers : ℕ → Bool → Type 0) (slots : List (Option Pair)) (mask tag at j : ℕ) (p : Pair)
    → AreMet mask slots → home mask tag ≤ at
    → ((x : ℕ) → home mask tag ≤ x → x < at → IsMissed answers slots tag x)
    → slot_at slots at ≡ None → p.tag ≡ tag → slot_at slots j ≡ Some p → answers p.index false
went_past answers slots mask tag at j p met from_on missed none same there = elim (cases_lt j at) [
  | inl lt ↦
      let miss = missed j (omega (arith, met.after j p there, at_home)) lt in
      let e = same_Some miss.pair p (sym miss.there ∙ there) in
      subst (λ (x : Pair). answers x.index false) e (miss.other (ap (λ (x : Pair). x.tag) e ∙ same))
  | inr ge ↦ elim (cases_eq j at) [
    | inl e ↦ absurd (none-some p (sym none ∙ sym (ap (slot_at slots) e) ∙ there))
    | inr ne ↦ absurd (no_none (slot_at slots at) none (met.reached j p there at (omega (arith, at_home)) (omega arith)))
  ]
]
  where
    at_home : home mask p.tag ≡ home mask tag
    at_home = ap (home mask) same

pub absent_missed :
    (answers : ℕ → Bool → Type 0) (slots : List (Option Pair)) (mask tag at : ℕ) (o : Option ℕ)
    → AreMet mask slots → home mask tag ≤ at
    → ((x : ℕ) → home mask tag ≤ x → x < at → IsMissed answers slots tag x)
    → IfNone o (slot_at slots at ≡ None)
    → IfNone o ((i : ℕ) → Contains (pairs_of slots) (pair_of tag i) → answers i false)
absent_missed answers slots mask tag at None met from_on missed none = λ i held.
    let there = placed slots (pair_of tag i) held in
    went_past answers slots mask tag at there.0 (pair_of tag i) met from_on missed none refl there.1
absent_missed answers slots mask tag at (Some i) met from_on missed none = tt
