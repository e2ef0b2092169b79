-- Equations over bits in row-echelon form: at each bit at most one leads.
use Rattle.std.specs.Prelude.{◌≡◌, ℕ, ◌<◌, Bool, false, List, length, Option, Some, None, slice_index_or}
use Rattle.gf2_solve.specs.Sums.{plus, bit, sum_of}
use Rattle.gf2_solve.specs.declared.equation.Equation.{Equation}
use Rattle.gf2_solve.specs.declared.elimination.Rest.{Rest}
use Rattle.gf2_solve.specs.declared.elimination.Rest.TheVariants.{Leading, Gap}

-- the sum of both sides of an equation at a vector: 0 where the vector meets it
abbrev pub gap_of : Equation → List Bool → Bool
gap_of equation x = plus equation.sum (sum_of equation.row x)

-- a vector that meets an equation
abbrev pub IsMetBy : Equation → List Bool → Type 0
IsMetBy equation x = gap_of equation x ≡ false

-- the bit behind a vector: what the equation that leads there says, else the wanted one
abbrev pub led_bit : Option Equation → List Bool → Bool → Bool
led_bit None x wanted = wanted
led_bit (Some equation) x wanted = gap_of equation x

-- the equation that leads at bit i
abbrev pub led_at : List (Option Equation) → ℕ → Option Equation
led_at rows i = slice_index_or rows i None

-- each equation's row ends before the bit at which it leads
pub record AreLed (rows : List (Option Equation)) : Type 0 where
  pub ends : (i : ℕ) (e : Equation) → led_at rows i ≡ Some e → length e.row ≡ i

-- a vector whose bits are those that the leading equations say
pub record Solves (rows : List (Option Equation)) (x : List Bool) : Type 0 where
  pub bits : (i : ℕ) (e : Equation) → led_at rows i ≡ Some e → bit x i ≡ gap_of e x

-- what is left of an equation leads at a free bit
pub record LeadsAnew (rows : List (Option Equation)) (equation rest : Equation) : Type 0 where
  pub within : length rest.row < length rows
  pub free : led_at rows (length rest.row) ≡ None
  pub same : (x : List Bool) → Solves rows x
      → gap_of equation x ≡ plus (gap_of rest x) (bit x (length rest.row))

-- an equation with one gap at all solutions of others
pub record HasGap (rows : List (Option Equation)) (equation : Equation) (gap : Bool) : Type 0 where
  pub same : (x : List Bool) → Solves rows x → gap_of equation x ≡ gap

-- what is left of an equation among others
abbrev pub IsRest : List (Option Equation) → Equation → Rest → Type 0
IsRest rows equation (Leading rest) = LeadsAnew rows equation rest
IsRest rows equation (Gap gap) = HasGap rows equation gap

-- equations with one more: their solutions are those of the old ones that meet it
pub record IsAdded (old : List (Option Equation)) (equation : Equation)
    (new : List (Option Equation)) : Type 0 where
  pub length : length new ≡ length old
  pub before : (x : List Bool) → Solves new x → Solves old x
  pub met : (x : List Bool) → Solves new x → IsMetBy equation x
  pub stays : (x : List Bool) → Solves old x → IsMetBy equation x → Solves new x
