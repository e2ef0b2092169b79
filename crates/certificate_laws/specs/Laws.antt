-- What a checked certificate shows.
use Rattle.std.specs.Prelude.{◌≡◌, ◌≢◌, ◌⊎◌, ℕ, ◌<◌, Bool, true, List, length, Option}
use Rattle.gf2_solve.specs.Sums.{bit}
use Rattle.certificate_laws.specs.Fixed.{with_bit, fixed_before}
use Rattle.certificate_laws.specs.declared.line.Span.{Span}
use Rattle.certificate_laws.specs.Trees.{Tree, checks, IsAdmissible, IsRefuted}

-- a tree that checks refutes
abbrev pub ChecksRefute : Type 0
ChecksRefute =
    (rows : List (List Bool)) (spans : List Span) (fixed : List (Option Bool)) (tree : Tree) →
    checks rows spans fixed tree ≡ true → IsRefuted rows spans fixed

-- At each of the first n places that counts and at which a vector is not as wanted, none that
-- agrees on the bits before it that count has the wanted bit.
pub record AreRefuted (counts : ℕ → Bool) (rows : List (List Bool)) (spans : List Span) (n : ℕ)
    (wanted x : List Bool) : Type 0 where
  pub each : (i : ℕ) → i < n → counts i ≡ true → bit x i ≢ bit wanted i
      → IsRefuted rows spans (with_bit i (bit wanted i) (fixed_before counts n x i))

-- two vectors that agree on those of the first i bits that count
pub record AgreeWhere (counts : ℕ → Bool) (i : ℕ) (x y : List Bool) : Type 0 where
  pub bits : (j : ℕ) → j < i → counts j ≡ true → bit x j ≡ bit y j

-- Each bit of a vector that counts is the wanted one, unless no admissible vector of n bits with the
-- same earlier bits, as far as they count, has it.
pub record IsNearest (counts : ℕ → Bool) (rows : List (List Bool)) (spans : List Span) (n : ℕ)
    (wanted x : List Bool) : Type 0 where
  pub nearest : (i : ℕ) → i < n → counts i ≡ true → (bit x i ≡ bit wanted i)
      ⊎ ((y : List Bool) → length y ≡ n → IsAdmissible rows spans y → AgreeWhere counts i x y
      → bit y i ≢ bit wanted i)

abbrev pub RefutedIsNearest : Type 0
RefutedIsNearest =
    (counts : ℕ → Bool) (rows : List (List Bool)) (spans : List Span) (n : ℕ)
    (wanted x : List Bool) →
    AreRefuted counts rows spans n wanted x → IsNearest counts rows spans n wanted x
