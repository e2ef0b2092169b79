-- Bits, rows of bits and their sums modulo 2: GF(2), the field of two elements.
use Rattle.std.specs.Prelude.{◌≡◌, ℕ, Bool, true, false, not, ◌&&◌, List, [], ◌∷◌, slice_index_or}

-- the sum of two bits
abbrev pub plus : Bool → Bool → Bool
plus false b = b
plus true b = not b

-- bit i of a vector, 0 past its end
abbrev pub bit : List Bool → ℕ → Bool
bit x i = slice_index_or x i false

-- the sum of a row at a vector: of the row's bits where the vector has a 1, over the places of both
abbrev pub sum_of : List Bool → List Bool → Bool
sum_of [] x = false
sum_of (a ∷ row) [] = false
sum_of (a ∷ row) (b ∷ x) = plus (a && b) (sum_of row x)

-- a row whose sum at each vector is the sum of two others' sums
pub record IsSumOf (left right row : List Bool) : Type 0 where
  pub sums : (x : List Bool) → sum_of row x ≡ plus (sum_of left x) (sum_of right x)

-- a row whose sum at each vector is another's
pub record HasSameSums (row other : List Bool) : Type 0 where
  pub sums : (x : List Bool) → sum_of row x ≡ sum_of other x
