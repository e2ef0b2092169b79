-- What the nearest solution is, said in other words.
use Rattle.std.specs.Prelude.{◌≡◌, ◌≢◌, ℕ, Bool, List}
use Rattle.gf2_solve.specs.Sums.{bit}
use Rattle.gf2_solve.specs.Solutions.{IsAdmissible, AgreeBelow, IsNearest}

-- two nearest solutions are equal
abbrev pub NearestIsOne : Type 0
NearestIsOne = (n : ℕ) (rows groups : List (List Bool)) (wanted x y : List Bool)
    → IsNearest n rows groups wanted x → IsNearest n rows groups wanted y → x ≡ y

-- two vectors that differ at bit i and agree on all earlier bits
pub record DifferFirstAt (i : ℕ) (x y : List Bool) : Type 0 where
  pub earlier : AgreeBelow i x y
  pub differ : bit x i ≢ bit y i

-- wherever another solution with a 1 in each group first differs, this one has the wanted bit
pub record IsFirst (n : ℕ) (rows groups : List (List Bool)) (wanted x : List Bool) : Type 0 where
  pub admissible : IsAdmissible n rows groups x
  pub first : (y : List Bool) → IsAdmissible n rows groups y
      → (i : ℕ) → DifferFirstAt i x y → bit x i ≡ bit wanted i

-- the nearest solution is the first one
abbrev pub NearestIsFirst : Type 0
NearestIsFirst = (n : ℕ) (rows groups : List (List Bool)) (wanted x : List Bool)
    → IsNearest n rows groups wanted x → IsFirst n rows groups wanted x

-- the first solution is the nearest one
abbrev pub FirstIsNearest : Type 0
FirstIsNearest = (n : ℕ) (rows groups : List (List Bool)) (wanted x : List Bool)
    → IsFirst n rows groups wanted x → IsNearest n rows groups wanted x
