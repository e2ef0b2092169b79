-- The hash of a longer input.
use Rattle.std.proofs.Common.{◌≡◌, ℕ, zero, suc, ◌+◌, ◌*◌, ◌%◌, ◌<◌, refl, ap, sym, ◌∙◌, List, [], ◌∷◌, ◌++◌, length, get_or, take, drop, arith, length-append, add_assoc, add-zero, zero-add}
use Rattle.std.proofs.lemmas.List.{take_more, length-take-le}
use Rattle.std.specs.Int.Bits.{bit_xor}
use Rattle.toeplitz_hash.specs.Bits.{bit_of, number_of}
use Rattle.toeplitz_hash.specs.Toeplitz.{sum_below, hash_bit, hash_of_bits, toeplitz_of}
use Rattle.toeplitz_hash.proofs.Sums.{sum_below-same, sum_below-append}
use Rattle.toeplitz_hash.proofs.Numbers.{number_of-same, number_of-zero, number_of-xor, number_of-scaled}
use Rattle.toeplitz_hash.proofs.Bytes.{bit_of-drop, bit_of_front, bit_of_back}

pub hash_bit-lt : (n : ℕ) (key input : ℕ → ℕ) (j : ℕ) → hash_bit n key input j < 2
unfolding hash_bit
hash_bit-lt n key input j = omega arith

-- The hash depends on the first n bits of the input and n + 31 of the key.
pub hash_of_bits-same :
    (n : ℕ) (key other input further : ℕ → ℕ) → ((i : ℕ) → i < n + 31 → key i ≡ other i)
    → ((i : ℕ) → i < n → input i ≡ further i)
    → hash_of_bits n key input ≡ hash_of_bits n other further
unfolding hash_of_bits hash_bit
hash_of_bits-same n key other input further keys inputs =
    number_of-same 32 (hash_bit n key input) (hash_bit n other further)
    (λ j within. ap (λ s. s % 2)
    (sum_below-same n (λ i. input i * key (i + j)) (λ i. further i * other (i + j))
    (λ i below. let left : input i ≡ further i = inputs i below in let right : key (i + j) ≡ other (i + j) = keys (i + j) (omega arith) in cc)))

-- the hash of n bits, and of k further ones
pub hash_of_bits-append :
    (n k : ℕ) (key input : ℕ → ℕ)
    → hash_of_bits (n + k) key input ≡ bit_xor (hash_of_bits n key input) (hash_of_bits k (λ i. key (n + i)) (λ i. input (n + i)))
unfolding hash_of_bits hash_bit
hash_of_bits-append n k key input =
    number_of-same 32 (hash_bit (n + k) key input)
    (λ j. (hash_bit n key input j + hash_bit k (λ i. key (n + i)) (λ i. input (n + i)) j) % 2)
    (λ j within.
    let parts : sum_below (n + k) (λ i. input i * key (i + j)) ≡ sum_below n (λ i. input i * key (i + j)) + sum_below k (λ i. input (n + i) * key (n + i + j)) =
    sum_below-append n k (λ i. input i * key (i + j)) in
    let moved : sum_below k (λ i. input (n + i) * key (n + i + j)) ≡ sum_below k (λ i. input (n + i) * key (n + (i + j))) =
    sum_below-same k (λ i. input (n + i) * key (n + i + j)) (λ i. input (n + i) * key (n + (i + j)))
    (λ i below. ap (λ m. input (n + i) * key m) (add_assoc n i j)) in
    omega (arith, parts, moved))
    ∙ number_of-xor 32 (hash_bit n key input) (hash_bit k (λ i. key (n + i)) (λ i. input (n + i)))
    (hash_bit-lt n key input) (hash_bit-lt k (λ i. key (n + i)) (λ i. input (n + i)))

bit_product : (x y : ℕ) → x < 2 → y < 2 → (x * y) % 2 ≡ x * y
bit_product zero y p q = omega arith
bit_product (suc zero) y p q = omega arith
bit_product (suc (suc x)) y p q = absurd (omega arith)

-- the hash of one bit
hash_of_one :
    (key input : ℕ → ℕ) → ((i : ℕ) → key i < 2) → ((i : ℕ) → input i < 2)
    → hash_of_bits 1 key input ≡ input 0 * number_of 32 key
unfolding hash_of_bits hash_bit sum_below
hash_of_one key input keys inputs =
    number_of-same 32 (hash_bit 1 key input) (λ j. input 0 * key j)
    (λ j within. simp zero-add (bit_product (input 0) (key j) (inputs 0) (keys j)))
    ∙ number_of-scaled 32 (input 0) key

pub hash_of_none : (key input : ℕ → ℕ) → hash_of_bits 0 key input ≡ 0
unfolding hash_of_bits hash_bit sum_below
hash_of_none key input = number_of-zero 32 (hash_bit 0 key input) (λ j within. refl)

-- the hash of n bits, and of one more: a bit that is 1 adds the 32 bits of the key from there on
pub hash_of_bits-more :
    (n : ℕ) (key input : ℕ → ℕ) → ((i : ℕ) → key i < 2) → ((i : ℕ) → input i < 2)
    → hash_of_bits (n + 1) key input ≡ bit_xor (hash_of_bits n key input) (input n * number_of 32 (λ j. key (n + j)))
hash_of_bits-more n key input keys inputs =
    hash_of_bits-append n 1 key input
    ∙ ap (bit_xor (hash_of_bits n key input)) (hash_of_one (λ i. key (n + i)) (λ i. input (n + i)) (λ i. keys (n + i)) (λ i. inputs (n + i)))
    ∙ ap (λ m. bit_xor (hash_of_bits n key input) (input m * number_of 32 (λ j. key (n + j)))) (add-zero n)

-- the hash of bytes, and of further ones
pub toeplitz_of-append :
    (key xs ys : List ℕ)
    → toeplitz_of key (xs ++ ys) ≡ bit_xor (toeplitz_of key xs) (toeplitz_of (drop (length xs) key) ys)
unfolding toeplitz_of
toeplitz_of-append key xs ys =
    let bits : 8 * length (xs ++ ys) ≡ 8 * length xs + 8 * length ys = omega (arith, length-append xs ys) in
    let front : hash_of_bits (8 * length xs) (bit_of key) (bit_of (xs ++ ys)) ≡ hash_of_bits (8 * length xs) (bit_of key) (bit_of xs) =
    hash_of_bits-same (8 * length xs) (bit_of key) (bit_of key) (bit_of (xs ++ ys)) (bit_of xs) (λ i h. refl) (bit_of_front xs ys) in
    let back : hash_of_bits (8 * length ys) (λ i. bit_of key (8 * length xs + i)) (λ i. bit_of (xs ++ ys) (8 * length xs + i)) ≡ hash_of_bits (8 * length ys) (bit_of (drop (length xs) key)) (bit_of ys) =
    hash_of_bits-same (8 * length ys) (λ i. bit_of key (8 * length xs + i)) (bit_of (drop (length xs) key)) (λ i. bit_of (xs ++ ys) (8 * length xs + i)) (bit_of ys)
    (λ i h. sym (bit_of-drop key (length xs) i)) (λ i h. bit_of_back xs ys i) in
    ap (λ n. hash_of_bits n (bit_of key) (bit_of (xs ++ ys))) bits
    ∙ hash_of_bits-append (8 * length xs) (8 * length ys) (bit_of key) (bit_of (xs ++ ys))
    ∙ ap (λ h. bit_xor h (hash_of_bits (8 * length ys) (λ i. bit_of key (8 * length xs + i)) (λ i. bit_of (xs ++ ys) (8 * length xs + i)))) front
    ∙ ap (bit_xor (hash_of_bits (8 * length xs) (bit_of key) (bit_of xs))) back

-- the hash of the first bytes, and of one more
pub toeplitz_of_more :
    (key input : List ℕ) (i : ℕ) → i < length input
    → toeplitz_of key (take (i + 1) input) ≡ bit_xor (toeplitz_of key (take i input)) (toeplitz_of (drop i key) (get_or input i 0 ∷ []))
toeplitz_of_more key input i within =
    let front : length (take i input) ≡ i = length-take-le i input (omega arith) in
    ap (toeplitz_of key) (take_more input i 0 within)
    ∙ toeplitz_of-append key (take i input) (get_or input i 0 ∷ [])
    ∙ ap (λ n. bit_xor (toeplitz_of key (take i input)) (toeplitz_of (drop n key) (get_or input i 0 ∷ []))) front

pub toeplitz_of_none : (key : List ℕ) → toeplitz_of key [] ≡ 0
unfolding toeplitz_of
toeplitz_of_none key = hash_of_none (bit_of key) (bit_of [])
