-- Solutions of homogeneous linear equations over GF(2), and the nearest one.
use Rattle.std.specs.Prelude.{◌≡◌, ◌≢◌, ℕ, ◌<◌, Bool, true, false, List, length, All, Option, Some, None, ◌⊎◌}
use Rattle.gf2_solve.specs.Sums.{bit, sum_of}

-- n bits at which each row has the sum 0
pub record IsSolution (n : ℕ) (rows : List (List Bool)) (x : List Bool) : Type 0 where
  pub length : length x ≡ n
  pub sums : All (λ row. sum_of row x ≡ false) rows

-- a vector with a 1 at a member of a group
pub record Meets (x group : List Bool) : Type 0 where
  pub place : ℕ
  pub member : bit group place ≡ true
  pub one : bit x place ≡ true

-- a solution with a 1 in each group
pub record IsAdmissible (n : ℕ) (rows groups : List (List Bool)) (x : List Bool) : Type 0 where
  pub solution : IsSolution n rows x
  pub met : All (Meets x) groups

-- two vectors that agree on the first i bits
pub record AgreeBelow (i : ℕ) (x y : List Bool) : Type 0 where
  pub bits : (j : ℕ) → j < i → bit x j ≡ bit y j

-- no solution with a 1 in each group that agrees on all earlier bits has the wanted bit at i
pub record IsOutOfReach (n : ℕ) (rows groups : List (List Bool)) (wanted x : List Bool)
    (i : ℕ) : Type 0 where
  pub none : (y : List Bool) → IsAdmissible n rows groups y → AgreeBelow i x y
      → bit y i ≢ bit wanted i

-- a solution with a 1 in each group whose bits, in order, are the wanted ones unless out of reach
pub record IsNearest (n : ℕ) (rows groups : List (List Bool)) (wanted x : List Bool) : Type 0 where
  pub admissible : IsAdmissible n rows groups x
  pub nearest : (i : ℕ) → i < n
      → (bit x i ≡ bit wanted i) ⊎ IsOutOfReach n rows groups wanted x i

-- no solution has a 1 in each group
pub record HasNoSolution (n : ℕ) (rows groups : List (List Bool)) : Type 0 where
  pub none : (x : List Bool) → IsAdmissible n rows groups x → ⊥

-- the nearest solution, or none exactly where there is none
abbrev pub IsAnswer : ℕ → List (List Bool) → List (List Bool) → List Bool → Option (List Bool)
    → Type 0
IsAnswer n rows groups wanted None = HasNoSolution n rows groups
IsAnswer n rows groups wanted (Some x) = IsNearest n rows groups wanted x
