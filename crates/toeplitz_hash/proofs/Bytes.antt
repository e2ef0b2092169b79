-- The bits of bytes.
use Rattle.std.proofs.Common.{◌≡◌, ℕ, ◌+◌, ◌-◌, ◌*◌, ◌/◌, ◌%◌, ◌<◌, ◌≤◌, ap, ◌∙◌, List, [], ◌∷◌, ◌++◌, length, get_or, drop, arith}
use Rattle.std.proofs.Math.ListN.{get_or-eq_default}
use Rattle.std.specs.Int.{bit_at}
use Rattle.std.proofs.lemmas.List.{get_or-drop, get_or-append-add, get_or_append_left}
use Rattle.std.proofs.lemmas.Nat.Bits.{bit_at-lt, bit_at-zero}
use Rattle.toeplitz_hash.specs.Bits.{bit_of, number_of}
use Rattle.toeplitz_hash.proofs.Numbers.{number_of-append, number_of-none, number_of-same}

pub bit_of-lt : (bytes : List ℕ) (i : ℕ) → bit_of bytes i < 2
unfolding bit_of
bit_of-lt bytes i = bit_at-lt (get_or bytes (i / 8) 0) (7 - i % 8)

-- the bits of one byte
pub bit_of_byte :
    (bytes : List ℕ) (n i : ℕ) → i < 8
    → bit_of bytes (8 * n + i) ≡ bit_at (get_or bytes n 0) (7 - i)
unfolding bit_of
bit_of_byte bytes n i within =
    let row : (8 * n + i) / 8 ≡ n = omega arith in
    let column : (8 * n + i) % 8 ≡ i = omega arith in
    rw (row, column)

pub bit_of_one : (byte i : ℕ) → i < 8 → bit_of (byte ∷ []) i ≡ bit_at byte (7 - i)
unfolding bit_of
bit_of_one byte i within =
    let row : i / 8 ≡ 0 = omega arith in
    let column : i % 8 ≡ i = omega arith in
    rw (row, column)

pub bit_of_past : (bytes : List ℕ) (i : ℕ) → 8 * length bytes ≤ i → bit_of bytes i ≡ 0
unfolding bit_of
bit_of_past bytes i past =
    let none : get_or bytes (i / 8) 0 ≡ 0 = get_or-eq_default bytes 0 (omega arith) in
    rw none (bit_at-zero (7 - i % 8))

pub bit_of-drop : (bytes : List ℕ) (n i : ℕ) → bit_of (drop n bytes) i ≡ bit_of bytes (8 * n + i)
unfolding bit_of
bit_of-drop bytes n i =
    let row : (8 * n + i) / 8 ≡ n + i / 8 = omega arith in
    let column : (8 * n + i) % 8 ≡ i % 8 = omega arith in
    rw (row, column, get_or-drop)

pub bit_of_front : (xs ys : List ℕ) (i : ℕ) → i < 8 * length xs → bit_of (xs ++ ys) i ≡ bit_of xs i
unfolding bit_of
bit_of_front xs ys i within =
    let inside : i / 8 < length xs = omega arith in
    ap (λ b. bit_at b (7 - i % 8)) (get_or_append_left xs ys 0 (i / 8) inside)

pub bit_of_back : (xs ys : List ℕ) (i : ℕ) → bit_of (xs ++ ys) (8 * length xs + i) ≡ bit_of ys i
unfolding bit_of
bit_of_back xs ys i =
    let row : (8 * length xs + i) / 8 ≡ length xs + i / 8 = omega arith in
    let column : (8 * length xs + i) % 8 ≡ i % 8 = omega arith in
    rw (row, column, get_or-append-add)

-- the number of a byte's bits
bits_of_byte : (b : ℕ) → number_of 8 (λ i. bit_at b (7 - i)) ≡ b % 256
unfolding number_of
bits_of_byte b = omega arith

-- the number of n bytes, and of one more
pub number_of_byte :
    (bytes : List ℕ) (n : ℕ)
    → number_of (8 * n + 8) (bit_of bytes) ≡ number_of (8 * n) (bit_of bytes) * 256 + get_or bytes n 0 % 256
number_of_byte bytes n =
    let last : number_of 8 (λ i. bit_of bytes (8 * n + i)) ≡ get_or bytes n 0 % 256 =
    number_of-same 8 (λ i. bit_of bytes (8 * n + i)) (λ i. bit_at (get_or bytes n 0) (7 - i)) (bit_of_byte bytes n) ∙ bits_of_byte (get_or bytes n 0) in
    number_of-append (8 * n) 8 (bit_of bytes) ∙ ap (λ k. number_of (8 * n) (bit_of bytes) * 256 + k) last

-- the first 16, 32 and 40 bits of bytes
pub first_two :
    (bytes : List ℕ)
    → number_of 16 (bit_of bytes) ≡ get_or bytes 0 0 % 256 * 256 + get_or bytes 1 0 % 256
first_two bytes =
    let none : number_of 0 (bit_of bytes) ≡ 0 = number_of-none (bit_of bytes) in
    let first : number_of 8 (bit_of bytes) ≡ number_of 0 (bit_of bytes) * 256 + get_or bytes 0 0 % 256 = number_of_byte bytes 0 in
    let second : number_of 16 (bit_of bytes) ≡ number_of 8 (bit_of bytes) * 256 + get_or bytes 1 0 % 256 = number_of_byte bytes 1 in
    omega (arith, none, first, second)

pub first_four :
    (bytes : List ℕ)
    → number_of 32 (bit_of bytes) ≡ ((get_or bytes 0 0 % 256 * 256 + get_or bytes 1 0 % 256) * 256 + get_or bytes 2 0 % 256) * 256 + get_or bytes 3 0 % 256
first_four bytes =
    let third : number_of 24 (bit_of bytes) ≡ number_of 16 (bit_of bytes) * 256 + get_or bytes 2 0 % 256 = number_of_byte bytes 2 in
    let fourth : number_of 32 (bit_of bytes) ≡ number_of 24 (bit_of bytes) * 256 + get_or bytes 3 0 % 256 = number_of_byte bytes 3 in
    omega (arith, first_two bytes, third, fourth)

pub first_five :
    (bytes : List ℕ) → ((i : ℕ) → get_or bytes i 0 < 256)
    → number_of 40 (bit_of bytes) ≡ (((get_or bytes 0 0 * 256 + get_or bytes 1 0) * 256 + get_or bytes 2 0) * 256 + get_or bytes 3 0) * 256 + get_or bytes 4 0
first_five bytes below =
    let fifth : number_of 40 (bit_of bytes) ≡ number_of 32 (bit_of bytes) * 256 + get_or bytes 4 0 % 256 = number_of_byte bytes 4 in
    omega (arith, first_four bytes, fifth, below 0, below 1, below 2, below 3, below 4)
