-- Systems that are narrowed, and the solutions with a 1 in each group that are looked for in them.
use Rattle.std.specs.Prelude.{◌≡◌, ◌≢◌, ℕ, Bool, true, false, List, All, Option, Some, None, ◌⊎◌}
use Rattle.gf2_solve.specs.Sums.{bit}
use Rattle.gf2_solve.specs.Equations.{IsMetBy}
use Rattle.gf2_solve.specs.Solutions.{Meets}
use Rattle.gf2_solve.specs.Kept.{Kept, width_of, HasSolution}
use Rattle.gf2_solve.specs.declared.equation.Equation.{Equation}

-- no vector is a solution
pub record HasNone (system : Kept) : Type 0 where
  pub none : (x : List Bool) → HasSolution system x → ⊥

-- a system with one more equation
pub record IsNarrowed (old : Kept) (equation : Equation) (new : Kept) : Type 0 where
  pub width : width_of new ≡ width_of old
  pub before : (x : List Bool) → HasSolution new x → HasSolution old x
  pub met : (x : List Bool) → HasSolution new x → IsMetBy equation x
  pub stays : (x : List Bool) → HasSolution old x → IsMetBy equation x → HasSolution new x

-- a system with one bit fixed
pub record IsFixed (old : Kept) (place : ℕ) (value : Bool) (new : Kept) : Type 0 where
  pub width : width_of new ≡ width_of old
  pub before : (x : List Bool) → HasSolution new x → HasSolution old x
  pub fixed : (x : List Bool) → HasSolution new x → bit x place ≡ value
  pub stays : (x : List Bool) → HasSolution old x → bit x place ≡ value → HasSolution new x

-- no solution has this bit at a place
pub record Excludes (system : Kept) (place : ℕ) (value : Bool) : Type 0 where
  pub none : (x : List Bool) → HasSolution system x → bit x place ≢ value

-- a vector with a 0 at each member of a group
pub record Misses (x group : List Bool) : Type 0 where
  pub zero : (place : ℕ) → bit group place ≡ true → bit x place ≡ false

-- a solution with a 1 in each group
pub record IsAmong (system : Kept) (groups : List (List Bool)) (x : List Bool) : Type 0 where
  pub solution : HasSolution system x
  pub met : All (Meets x) groups

-- no solution has a 1 in each group
pub record NoneIsAmong (system : Kept) (groups : List (List Bool)) : Type 0 where
  pub none : (x : List Bool) → IsAmong system groups x → ⊥

-- a solution with a 1 in each group, or none exactly where there is none
abbrev pub IsFound : Kept → List (List Bool) → Option (List Bool) → Type 0
IsFound system groups None = NoneIsAmong system groups
IsFound system groups (Some x) = IsAmong system groups x

-- no solution with a 1 in each group has this bit at a place
pub record NoneHas (system : Kept) (groups : List (List Bool)) (place : ℕ)
    (value : Bool) : Type 0 where
  pub none : (x : List Bool) → IsAmong system groups x → bit x place ≢ value

-- a solution with a 1 at a place and in each group
pub record IsAmongAt (system : Kept) (place : ℕ) (groups : List (List Bool))
    (x : List Bool) : Type 0 where
  pub among : IsAmong system groups x
  pub one : bit x place ≡ true

-- the same with a 1 at a place
abbrev pub IsFoundAt : Kept → ℕ → List (List Bool) → Option (List Bool) → Type 0
IsFoundAt system place groups None = NoneHas system groups place true
IsFoundAt system place groups (Some x) = IsAmongAt system place groups x

-- a solution with a 1 in each group that has the wanted bit at a place unless none has
pub record IsCloser (system : Kept) (groups : List (List Bool)) (wanted : List Bool) (place : ℕ)
    (x : List Bool) : Type 0 where
  pub among : IsAmong system groups x
  pub closer : (bit x place ≡ bit wanted place) ⊎ NoneHas system groups place (bit wanted place)
