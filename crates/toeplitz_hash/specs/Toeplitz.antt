-- The Toeplitz hash (Microsoft RSS).
use Rattle.std.specs.Prelude.{ℕ, zero, suc, ◌+◌, ◌*◌, ◌%◌, List, length}
use Rattle.toeplitz_hash.specs.Bits.{bit_of, number_of}

-- the sum of the first n numbers
unfoldable pub sum_below : ℕ → (ℕ → ℕ) → ℕ
sum_below zero number = 0
sum_below (suc n) number = sum_below n number + number n

-- Bit j of the hash of n bits, 0 the highest: the sum modulo 2 over the bits i of the input.
unfoldable pub hash_bit : ℕ → (ℕ → ℕ) → (ℕ → ℕ) → ℕ → ℕ
hash_bit n key input j = sum_below n (λ i. input i * key (i + j)) % 2

-- the hash of n bits, 32 bits wide
unfoldable pub hash_of_bits : ℕ → (ℕ → ℕ) → (ℕ → ℕ) → ℕ
hash_of_bits n key input = number_of 32 (hash_bit n key input)

-- the hash of bytes
unfoldable pub toeplitz_of : List ℕ → List ℕ → ℕ
toeplitz_of key input = hash_of_bits (8 * length input) (bit_of key) (bit_of input)
