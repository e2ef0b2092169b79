-- Trees that show that no solution of some rows with some bits fixed meets every span.
use Rattle.std.specs.Prelude.{◌≡◌, ℕ, ◌+◌, ◌<◌, ◌==◌, nat_lt, zero, suc, Bool, true, false, ◌&&◌, List, [], ◌∷◌, length, All, Option}
use Rattle.std.specs.List.{list_any}
use Rattle.gf2_solve.specs.Sums.{bit, sum_of}
use Rattle.certificate_laws.specs.declared.line.Term.{Term}
use Rattle.certificate_laws.specs.declared.line.Span.{Span}
use Rattle.certificate_laws.specs.Fixed.{with_bit, HasFixed}
use Rattle.certificate_laws.specs.Terms.{alone, is_sum}

pub data Tree : Type 0 where
  Split : ℕ → Tree → Tree → Tree
  Clash : List Term → Tree
  Zero : Span → List (List Term) → Tree

-- one sum for each of so many places, each of which is that place alone with the value 0
abbrev pub are_zero : List (List Bool) → List (Option Bool) → ℕ → ℕ → List (List Term) → Bool
are_zero rows fixed zero place [] = true
are_zero rows fixed (suc count) place [] = false
are_zero rows fixed zero place (s ∷ sums) = false
are_zero rows fixed (suc count) place (s ∷ sums) =
    is_sum rows fixed s (alone place) false && are_zero rows fixed count (suc place) sums

abbrev pub zeros_of : List (List Bool) → List (Option Bool) → Span → List (List Term) → Bool
zeros_of rows fixed span sums = are_zero rows fixed span.count span.first sums

abbrev pub same_span : Span → Span → Bool
same_span a b = (a.first == b.first) && (a.count == b.count)

-- whether a span is one of some
abbrev pub is_span : List Span → Span → Bool
is_span spans span = list_any (same_span span) spans

-- whether a tree checks
abbrev pub checks : List (List Bool) → List Span → List (Option Bool) → Tree → Bool
checks rows spans fixed (Split place off on) =
    nat_lt place (length fixed)
    && (checks rows spans (with_bit place false fixed) off
    && checks rows spans (with_bit place true fixed) on)
checks rows spans fixed (Clash terms) = is_sum rows fixed terms [] true
checks rows spans fixed (Zero span sums) =
    is_span spans span && zeros_of rows fixed span sums

-- a vector with a 1 in a span
pub record Meets (x : List Bool) (span : Span) : Type 0 where
  pub offset : ℕ
  pub within : offset < span.count
  pub one : bit x (span.first + offset) ≡ true

-- Each row sums to 0 at a vector with a 1 in each span.
pub record IsAdmissible (rows : List (List Bool)) (spans : List Span) (x : List Bool) : Type 0 where
  pub sums : All (λ row. sum_of row x ≡ false) rows
  pub met : All (Meets x) spans

-- None such has the fixed bits.
pub record IsRefuted (rows : List (List Bool)) (spans : List Span) (fixed : List (Option Bool))
    : Type 0 where
  pub none : (x : List Bool) → IsAdmissible rows spans x → HasFixed fixed x → ⊥
