-- The first open place.
use Rattle.std.proofs.Common.{◌≡◌, ℕ, ◌+◌, ◌/◌, ◌%◌, ◌<◌, ◌≤◌, ap, ◌∙◌, inl, inr, Bool, true, List, length, Option, subst, arith}
use Rattle.std.proofs.lemmas.Bool.{cases_eq}
use Rattle.std.proofs.lemmas.List.{get_or_past}
use Rattle.certificate_laws.specs.Fixed.{fixed_at, is_fixed}
use Rattle.certificate_write.specs.Sayable.{IsPlace}
use Rattle.certificate_prove.specs.Growing.{AllFixed}

-- past the ports there is no position
pub no_port : (positions : List ℕ) (place : ℕ) → length positions ≤ place / 319 → IsPlace positions place → ⊥
no_port positions place past is = let none = get_or_past positions (place / 319) 0 past in absurd (omega (arith, is, none))

pub none_open : (positions : List ℕ) (fixed : List (Option Bool)) → AllFixed positions fixed 0
none_open positions fixed = record { each = λ i below is. absurd (omega (arith, below)) }

pub fixed_more : (positions : List ℕ) (fixed : List (Option Bool)) (n : ℕ) → AllFixed positions fixed n → is_fixed (fixed_at fixed n) ≡ true → AllFixed positions fixed (n + 1)
fixed_more positions fixed n before is = record {
  each = λ i below there. elim (cases_eq i n) [
    | inl same ↦ ap (λ j. is_fixed (fixed_at fixed j)) same ∙ is
    | inr other ↦ before.each i (omega (arith, below, other)) there
  ];
}

pub left_more : (positions : List ℕ) (fixed : List (Option Bool)) (n : ℕ) → AllFixed positions fixed n → (IsPlace positions n → ⊥) → AllFixed positions fixed (n + 1)
left_more positions fixed n before none = record {
  each = λ i below there. elim (cases_eq i n) [
    | inl same ↦ absurd (none (at i n same there))
    | inr other ↦ before.each i (omega (arith, below, other)) there
  ];
}
  where
    at : (i m : ℕ) → i ≡ m → IsPlace positions i → IsPlace positions m
    at i m same there = subst (IsPlace positions) same there

pub all_open : (positions : List ℕ) (fixed : List (Option Bool)) (n : ℕ) → n ≡ length fixed → AllFixed positions fixed n → AllFixed positions fixed (length fixed)
all_open positions fixed n all before = record { each = λ i below there. before.each i (omega (arith, below, all)) there }
