-- Groups in which a vector has no 1.
use Rattle.std.proofs.Common.{◌≡◌, ℕ, ◌+◌, ◌<◌, sym, ap, ◌∙◌, inl, inr, Bool, true, false, List, length, arith}
use Rattle.std.proofs.lemmas.Bool.{cases_lt, false≢true}
use Rattle.std.proofs.lemmas.List.{get_or_past}
use Rattle.gf2_solve.specs.Sums.{bit}
use Rattle.gf2_solve.specs.Searches.{Misses}

-- the members below i have a 0
pub record MissesBelow (i : ℕ) (x group : List Bool) : Type 0 where
  pub zero : (place : ℕ) → place < i → bit group place ≡ true → bit x place ≡ false

pub misses_none : (x group : List Bool) → MissesBelow 0 x group
misses_none x group = record { zero = λ place below. absurd (omega arith) }

pub misses_more : (i : ℕ) (x group : List Bool) → MissesBelow i x group → (bit group i ≡ true → bit x i ≡ false) → MissesBelow (i + 1) x group
misses_more i x group misses here = record {
  zero = λ place below member. elim (cases_lt place i) [
    | inl before ↦ misses.zero place before member
    | inr behind ↦ let same : place ≡ i = omega arith in
        ap (bit x) same ∙ here (ap (bit group) (sym same) ∙ member)
  ];
}

-- a bit that is 1 is no bit past the end
pub within : (x : List Bool) (i : ℕ) → bit x i ≡ true → i < length x
within x i one = elim (cases_lt i (length x)) [
  | inl before ↦ before
  | inr behind ↦ absurd (false≢true (sym (get_or_past x i false behind) ∙ one))
]

pub misses_all : (x group : List Bool) → MissesBelow (length group) x group → Misses x group
misses_all x group misses = record { zero = λ place member. misses.zero place (within group place member) member }
