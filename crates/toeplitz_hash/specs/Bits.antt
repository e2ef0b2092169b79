-- Bytes and numbers as bits.
use Rattle.std.specs.Prelude.{ℕ, zero, suc, ◌+◌, ◌-◌, ◌*◌, ◌/◌, ◌%◌, List, slice_index}
use Rattle.std.specs.Int.{bit_at}

-- Bit i of some bytes, 0 or 1: bit 0 is the highest bit of the first byte. Bits past the end are 0.
unfoldable pub bit_of : List ℕ → ℕ → ℕ
bit_of bytes i = bit_at (slice_index bytes (i / 8)) (7 - i % 8)

-- the number of n bits, the highest one first
unfoldable pub number_of : ℕ → (ℕ → ℕ) → ℕ
number_of zero bit = 0
number_of (suc n) bit = number_of n bit * 2 + bit n
