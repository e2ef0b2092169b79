-- What a system keeps, and the rows that it stands for. Contracts speak of its solutions alone.
use Rattle.std.specs.Prelude.{◌≡◌, ℕ, Bool, true, List, [], ◌∷◌, ◌++◌, length, Option}
use Rattle.gf2_solve.specs.Equations.{Solves}
use Rattle.gf2_solve.specs.Solutions.{IsSolution, IsAnswer}
use Rattle.gf2_solve.specs.declared.equation.Equation.{Equation}

-- what is kept
pub record Kept : Type 0 where
  -- at each bit the equation that says what it is from the bits before it
  pub rows : List (Option Equation)
  -- no equation contradicts the others
  pub possible : Bool

-- what is kept, from its parts
abbrev pub kept : List (Option Equation) → Bool → Kept
kept rows possible = record { rows = rows; possible = possible }

-- how many bits a solution has
abbrev pub width_of : Kept → ℕ
width_of system = length system.rows

-- a solution of the equations that are kept
pub record HasSolution (system : Kept) (x : List Bool) : Type 0 where
  pub possible : system.possible ≡ true
  pub length : length x ≡ width_of system
  pub solves : Solves system.rows x

-- a system's solutions are those of these rows of n bits
pub record StandsFor (system : Kept) (n : ℕ) (rows : List (List Bool)) : Type 0 where
  pub width : width_of system ≡ n
  pub sound : (x : List Bool) → HasSolution system x → IsSolution n rows x
  pub complete : (x : List Bool) → IsSolution n rows x → HasSolution system x

-- whatever rows a system stood for, it stands for these and one more
pub record HasRowMore (old : Kept) (row : List Bool) (new : Kept) : Type 0 where
  pub stands : (n : ℕ) (rows : List (List Bool)) → StandsFor old n rows
      → StandsFor new n (rows ++ row ∷ [])

-- the answer for whatever rows a system stands for
pub record Answers (system : Kept) (groups : List (List Bool)) (wanted : List Bool)
    (answer : Option (List Bool)) : Type 0 where
  pub is : (n : ℕ) (rows : List (List Bool)) → StandsFor system n rows
      → IsAnswer n rows groups wanted answer
