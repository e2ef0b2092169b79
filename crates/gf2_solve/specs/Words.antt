-- Bits that are kept 64 to a word.
use Rattle.std.specs.Prelude.{◌≡◌, ℕ, zero, suc, ◌/◌, ◌%◌, Bool, false, List, length, map, ◌==◌, bit_xor, slice_index_or}
use Rattle.std.specs.List.{range_with_len}
use Rattle.std.specs.Int.{bit_at}
use Rattle.gf2_solve.specs.Sums.{plus}

-- bit i: of word i / 64, counted from the lowest one, and 0 past the last word
abbrev pub bit_of : List ℕ → ℕ → Bool
bit_of words i = bit_at (slice_index_or words (i / 64) 0) (i % 64) == 1

-- the first n bits
unfoldable pub bits_in : List ℕ → ℕ → List Bool
bits_in words n = map (bit_of words) (range_with_len 0 n)

-- the sum of the lowest n bits of a word
unfoldable pub low_sum : ℕ → ℕ → Bool
low_sum word zero = false
low_sum word (suc n) = plus (low_sum word n) (bit_at word n == 1)

-- words with others added
pub record AreAdded (old other new : List ℕ) : Type 0 where
  pub length : length new ≡ length old
  pub each : (k : ℕ) → slice_index_or new k 0
      ≡ bit_xor (slice_index_or old k 0) (slice_index_or other k 0)
