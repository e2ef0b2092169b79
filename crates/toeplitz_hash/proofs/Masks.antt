-- A window of 32 bits of a key, masked by a bit of the input.
use Rattle.std.proofs.Common.{◌≡◌, ℕ, zero, suc, ◌+◌, ◌-◌, ◌*◌, ◌/◌, ◌%◌, ◌^◌, ◌<◌, ap, sym, ◌∙◌, List, [], ◌∷◌, arith}
use Rattle.std.specs.Int.Bits.{bit_and, bit_xor}
use Rattle.std.proofs.lemmas.Nat.{and_mask, and_comm, shr_high, mod_low}
use Rattle.toeplitz_hash.specs.Bits.{bit_of, number_of}
use Rattle.toeplitz_hash.specs.Toeplitz.{hash_of_bits}
use Rattle.toeplitz_hash.proofs.Numbers.{number_of-append, number_of-lt}
use Rattle.toeplitz_hash.proofs.Bytes.{bit_of-lt}
use Rattle.toeplitz_hash.proofs.Hashes.{hash_of_bits-more}

-- a mask of a bit
and_bit : (w x : ℕ) → w < 2 ^ 32 → x < 2 → bit_and w (x * (2 ^ 32 - 1)) ≡ x * w
and_bit w zero small bit = let none : bit_and w 0 ≡ 0 = and_comm w 0 in omega (arith, none)
and_bit w (suc zero) small bit = omega (arith, and_mask w 32)
and_bit w (suc (suc x)) small bit = absurd (omega arith)

-- of 40 bits the 32 from bit i on
middle_bits :
    (i : ℕ) (f : ℕ → ℕ) → ((i : ℕ) → f i < 2) → i < 8
    → number_of 40 f / 2 ^ (8 - i) % 2 ^ 32 ≡ number_of 32 (λ j. f (i + j))
middle_bits i f bits within =
    let parts : number_of 40 f ≡ number_of (i + 32) f * 2 ^ (8 - i) + number_of (8 - i) (λ j. f (i + 32 + j)) =
    ap (λ m. number_of m f) (omega arith) ∙ number_of-append (i + 32) (8 - i) f in
    let high : number_of 40 f / 2 ^ (8 - i) ≡ number_of (i + 32) f =
    ap (λ m. m / 2 ^ (8 - i)) parts
    ∙ shr_high (number_of (i + 32) f) (8 - i) (number_of (8 - i) (λ j. f (i + 32 + j))) (number_of-lt (8 - i) (λ j. f (i + 32 + j)) (λ j. bits (i + 32 + j))) in
    ap (λ m. m % 2 ^ 32) (high ∙ number_of-append i 32 f)
    ∙ mod_low (number_of i f) 32 (number_of 32 (λ j. f (i + j))) (number_of-lt 32 (λ j. f (i + j)) (λ j. bits (i + j)))

-- one more bit of a byte
pub masked_more :
    (key : List ℕ) (byte i hash window bits mask : ℕ) → i < 8 → window ≡ number_of 40 (bit_of key)
    → bits ≡ window / 2 ^ (8 - i) % 2 ^ 32 → mask ≡ bit_of (byte ∷ []) i * (2 ^ 32 - 1)
    → hash ≡ hash_of_bits i (bit_of key) (bit_of (byte ∷ []))
    → bit_xor hash (bit_and bits mask) ≡ hash_of_bits (i + 1) (bit_of key) (bit_of (byte ∷ []))
masked_more key byte i hash window bits mask within is_window is_bits is_mask is_hash =
    let middle : bits ≡ number_of 32 (λ j. bit_of key (i + j)) =
    is_bits ∙ ap (λ m. m / 2 ^ (8 - i) % 2 ^ 32) is_window ∙ middle_bits i (bit_of key) (bit_of-lt key) within in
    let small : bits < 2 ^ 32 = omega (arith, is_bits) in
    let masked : bit_and bits mask ≡ bit_of (byte ∷ []) i * bits =
    ap (bit_and bits) is_mask ∙ and_bit bits (bit_of (byte ∷ []) i) small (bit_of-lt (byte ∷ []) i) in
    let product : bit_and bits mask ≡ bit_of (byte ∷ []) i * number_of 32 (λ j. bit_of key (i + j)) =
    masked ∙ ap (λ m. bit_of (byte ∷ []) i * m) middle in
    ap (λ h. bit_xor h (bit_and bits mask)) is_hash
    ∙ ap (bit_xor (hash_of_bits i (bit_of key) (bit_of (byte ∷ [])))) product
    ∙ sym (hash_of_bits-more i (bit_of key) (bit_of (byte ∷ [])) (bit_of-lt key) (bit_of-lt (byte ∷ [])))
