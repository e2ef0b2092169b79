-- Sums of rows and of fixed bits, modulo 2: GF(2), the field of two elements.
use Rattle.std.specs.Prelude.{ℕ, nat_lt, Bool, true, false, not, ◌&&◌, List, [], ◌∷◌, ◌++◌, length, map, replicate, Option, slice_index_or}
use Rattle.std.specs.List.{list_all}
use Rattle.gf2_solve.specs.Sums.{plus}
use Rattle.certificate_laws.specs.declared.line.Term.{Term}
use Rattle.certificate_laws.specs.declared.line.Term.TheVariants.{Row, Bit}
use Rattle.certificate_laws.specs.Fixed.{fixed_at, value_or_zero, is_fixed}

-- the sum of two rows of bits; a row has zeros past its end
abbrev pub added : List Bool → List Bool → List Bool
added [] s = s
added (a ∷ r) [] = a ∷ r
added (a ∷ r) (b ∷ s) = plus a b ∷ added r s

-- the row that is one bit alone
abbrev pub alone : ℕ → List Bool
alone place = replicate place false ++ true ∷ []

abbrev pub row_of : List (List Bool) → Term → List Bool
row_of rows (Row k) = slice_index_or rows k []
row_of rows (Bit place) = alone place

abbrev pub total : List (List Bool) → List Term → List Bool
total rows [] = []
total rows (t ∷ ts) = added (row_of rows t) (total rows ts)

-- A row sums to 0 in each solution, a fixed bit to its value.
abbrev pub value_of : List (Option Bool) → Term → Bool
value_of fixed (Row k) = false
value_of fixed (Bit place) = value_or_zero (fixed_at fixed place)

abbrev pub value : List (Option Bool) → List Term → Bool
value fixed [] = false
value fixed (t ∷ ts) = plus (value_of fixed t) (value fixed ts)

-- A row is named where it is listed, a bit where it is fixed.
abbrev pub may_name : List (List Bool) → List (Option Bool) → Term → Bool
may_name rows fixed (Row k) = nat_lt k (length rows)
may_name rows fixed (Bit place) = is_fixed (fixed_at fixed place)

abbrev pub is_zero : List Bool → Bool
is_zero row = list_all not row

-- A sum of named terms is this row, and its value is this one.
abbrev pub is_sum : List (List Bool) → List (Option Bool) → List Term → List Bool → Bool → Bool
is_sum rows fixed terms row wanted =
    list_all (may_name rows fixed) terms && (is_zero (added row (total rows terms)) &&
    not (plus wanted (value fixed terms)))

-- the row that adds up the bits at some places; a place twice cancels
abbrev pub row_at : List ℕ → List Bool
row_at [] = []
row_at (place ∷ places) = added (alone place) (row_at places)

abbrev pub rows_at : List (List ℕ) → List (List Bool)
rows_at rows = map row_at rows
