-- Bits of a vector that are fixed: of each place the value, or none.
use Rattle.std.specs.Prelude.{◌≡◌, ℕ, nat_lt, ◌&&◌, Bool, true, false, List, length, map, replicate, set, Option, Some, None, slice_index_or, if◌then◌else◌}
use Rattle.std.specs.List.{range_with_len}
use Rattle.gf2_solve.specs.Sums.{bit}

-- what a place is fixed to, and none past the end
abbrev pub fixed_at : List (Option Bool) → ℕ → Option Bool
fixed_at fixed i = slice_index_or fixed i None

-- a bit is fixed; the latest word on a place counts
abbrev pub with_bit : ℕ → Bool → List (Option Bool) → List (Option Bool)
with_bit place value fixed = set fixed place (Some value)

-- of n bits none is fixed
abbrev pub none_fixed : ℕ → List (Option Bool)
none_fixed n = replicate n None

-- of n bits those before a place that count are fixed to a vector's
abbrev pub fixed_before : (ℕ → Bool) → ℕ → List Bool → ℕ → List (Option Bool)
fixed_before counts n x place =
    map (λ i. if nat_lt i place && counts i then Some (bit x i) else None) (range_with_len 0 n)

-- a vector of as many bits that has the fixed ones
pub record HasFixed (fixed : List (Option Bool)) (x : List Bool) : Type 0 where
  pub long : length x ≡ length fixed
  pub bits : (i : ℕ) (b : Bool) → fixed_at fixed i ≡ Some b → bit x i ≡ b

-- the value of a fixed bit, 0 where none is
abbrev pub value_or_zero : Option Bool → Bool
value_or_zero None = false
value_or_zero (Some b) = b

abbrev pub is_fixed : Option Bool → Bool
is_fixed None = false
is_fixed (Some b) = true
