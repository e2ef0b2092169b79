-- Keys and inputs with one 1.
use Rattle.std.proofs.Common.{◌≡◌, ℕ, ◌+◌, ◌-◌, ◌*◌, ◌<◌, ◌≤◌, ap, sym, ◌∙◌, List, length, arith, inl, inr}
use Rattle.std.proofs.lemmas.Bool.{cases_lt}
use Rattle.toeplitz_hash.specs.Bits.{bit_of}
use Rattle.toeplitz_hash.specs.Toeplitz.{sum_below, hash_bit, hash_of_bits, toeplitz_of}
use Rattle.toeplitz_hash.specs.Laws.{HasOneBit, OneKeyBitSelects, OneInputBitSelects}
use Rattle.toeplitz_hash.proofs.Sums.{sum_below-zero, sum_below-one}
use Rattle.toeplitz_hash.proofs.Numbers.{number_of-same}
use Rattle.toeplitz_hash.proofs.Bytes.{bit_of-lt, bit_of_past}
use Rattle.toeplitz_hash.proofs.Linear.{hashes_have_bits}

-- the product of a bit and one that is 0, or 1
times_zero : (x y : ℕ) → y ≡ 0 → x * y ≡ 0
times_zero x y none = rw none (omega arith)

zero_times : (x y : ℕ) → x ≡ 0 → x * y ≡ 0
zero_times x y none = rw none (omega arith)

-- no product is 1
none_selected :
    (n : ℕ) (key input : ℕ → ℕ) (j : ℕ) → ((i : ℕ) → i < n → key (i + j) ≡ 0)
    → hash_bit n key input j ≡ 0
unfolding hash_bit
none_selected n key input j zeros =
    let none : sum_below n (λ i. input i * key (i + j)) ≡ 0 =
    sum_below-zero n (λ i. input i * key (i + j)) (λ i below. times_zero (input i) (key (i + j)) (zeros i below)) in
    omega (arith, none)

-- the bit of the input that meets the key's 1
one_selected :
    (n : ℕ) (key : List ℕ) (input : ℕ → ℕ) (j k : ℕ) → ((i : ℕ) → input i < 2) → HasOneBit key k
    → j ≤ k → k - j < n → hash_bit n (bit_of key) input j ≡ input (k - j)
unfolding hash_bit
one_selected n key input j k bits one low within =
    let alone : sum_below n (λ i. input i * bit_of key (i + j)) ≡ input (k - j) * bit_of key (k - j + j) =
    sum_below-one n (k - j) (λ i. input i * bit_of key (i + j)) within
    (λ i below other. times_zero (input i) (bit_of key (i + j)) (one.others (i + j) (λ same. other (omega arith)))) in
    let there : bit_of key (k - j + j) ≡ 1 = ap (bit_of key) (omega arith) ∙ one.one in
    let product : input (k - j) * bit_of key (k - j + j) ≡ input (k - j) = rw there (omega arith) in
    omega (arith, alone, product, bits (k - j))

selected :
    (key input : List ℕ) (k j : ℕ) → HasOneBit key k → j ≤ k
    → hash_bit (8 * length input) (bit_of key) (bit_of input) j ≡ bit_of input (k - j)
selected key input k j one low =
    elim (cases_lt (k - j) (8 * length input)) [
      | inl within ↦ one_selected (8 * length input) key (bit_of input) j k (bit_of-lt input) one low within
      | inr past ↦
          none_selected (8 * length input) (bit_of key) (bit_of input) j (λ i below. one.others (i + j) (omega arith))
          ∙ sym (bit_of_past input (k - j) past)
    ]

pub one_key_bit_selects : OneKeyBitSelects
one_key_bit_selects key input k one = record {
  to_the_first = λ j within low. (hashes_have_bits key input).bits j within ∙ selected key input k j one low;
  past_the_first = λ j within high.
      (hashes_have_bits key input).bits j within
      ∙ none_selected (8 * length input) (bit_of key) (bit_of input) j (λ i below. one.others (i + j) (omega arith));
}

pub one_input_bit_selects : OneInputBitSelects
unfolding toeplitz_of hash_of_bits hash_bit
one_input_bit_selects key input k within one =
    number_of-same 32 (hash_bit (8 * length input) (bit_of key) (bit_of input)) (λ j. bit_of key (k + j))
    (λ j small.
    let alone : sum_below (8 * length input) (λ i. bit_of input i * bit_of key (i + j)) ≡ bit_of input k * bit_of key (k + j) =
    sum_below-one (8 * length input) k (λ i. bit_of input i * bit_of key (i + j)) within
    (λ i below other. zero_times (bit_of input i) (bit_of key (i + j)) (one.others i other)) in
    let product : bit_of input k * bit_of key (k + j) ≡ bit_of key (k + j) = rw one.one (omega arith) in
    omega (arith, alone, product, bit_of-lt key (k + j)))
