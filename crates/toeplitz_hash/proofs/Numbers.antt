-- Numbers by their bits, the highest one first.
use Rattle.std.proofs.Common.{◌≡◌, ℕ, zero, suc, ◌+◌, ◌-◌, ◌*◌, ◌%◌, ◌^◌, ◌<◌, refl, ap, ◌∙◌, add-zero, add-suc, arith, lit<}
use Rattle.std.proofs.Math.Nat.{pow-suc}
use Rattle.std.specs.Int.{bit_at}
use Rattle.std.specs.Int.Bits.{bit_xor}
use Rattle.std.proofs.lemmas.Nat.{xor_block}
use Rattle.std.proofs.lemmas.Nat.Bits.{bit_at_cat_high, bit_at_lowest}
use Rattle.toeplitz_hash.specs.Bits.{number_of}

pub number_of-lt : (n : ℕ) (f : ℕ → ℕ) → ((i : ℕ) → f i < 2) → number_of n f < 2 ^ n
unfolding number_of
number_of-lt zero f bits = lit< tt
number_of-lt (suc n) f bits = rw pow-suc (omega (arith, number_of-lt n f bits, bits n))

pub number_of-none : (f : ℕ → ℕ) → number_of 0 f ≡ 0
unfolding number_of
number_of-none f = refl

pub number_of-same :
    (n : ℕ) (f g : ℕ → ℕ) → ((i : ℕ) → i < n → f i ≡ g i) → number_of n f ≡ number_of n g
unfolding number_of
number_of-same zero f g same = refl
number_of-same (suc n) f g same =
    omega (arith, number_of-same n f g (λ i h. same i (omega arith)), same n (omega arith))

pub number_of-zero : (n : ℕ) (f : ℕ → ℕ) → ((i : ℕ) → i < n → f i ≡ 0) → number_of n f ≡ 0
unfolding number_of
number_of-zero zero f none = refl
number_of-zero (suc n) f none = omega (arith, number_of-zero n f (λ i h. none i (omega arith)), none n (omega arith))

-- the number of n bits, and of k further ones
pub number_of-append :
    (n k : ℕ) (f : ℕ → ℕ)
    → number_of (n + k) f ≡ number_of n f * 2 ^ k + number_of k (λ i. f (n + i))
unfolding number_of
number_of-append n zero f =
    let whole : number_of (n + 0) f ≡ number_of n f = ap (λ m. number_of m f) (add-zero n) in
    omega (arith, whole)
number_of-append n (suc k) f = rw (add-suc, pow-suc) (omega (arith, number_of-append n k f))

-- bits that are all multiplied by one bit
pub number_of-scaled : (n x : ℕ) (f : ℕ → ℕ) → number_of n (λ i. x * f i) ≡ x * number_of n f
unfolding number_of
number_of-scaled zero x f = omega arith
number_of-scaled (suc n) x f = omega (arith, number_of-scaled n x f)

xor_of_bits : (r s : ℕ) → r < 2 → s < 2 → bit_xor r s ≡ (r + s) % 2
xor_of_bits zero zero p q = refl
xor_of_bits zero (suc zero) p q = refl
xor_of_bits (suc zero) zero p q = refl
xor_of_bits (suc zero) (suc zero) p q = refl
xor_of_bits zero (suc (suc s)) p q = absurd (omega arith)
xor_of_bits (suc zero) (suc (suc s)) p q = absurd (omega arith)
xor_of_bits (suc (suc r)) s p q = absurd (omega arith)

-- Bits that are the sums modulo 2 of two numbers' bits are those of the two with `xor`.
pub number_of-xor :
    (n : ℕ) (f g : ℕ → ℕ) → ((i : ℕ) → f i < 2) → ((i : ℕ) → g i < 2)
    → number_of n (λ i. (f i + g i) % 2) ≡ bit_xor (number_of n f) (number_of n g)
unfolding number_of
number_of-xor zero f g p q = refl
number_of-xor (suc n) f g p q =
    let front : number_of n (λ i. (f i + g i) % 2) ≡ bit_xor (number_of n f) (number_of n g) = number_of-xor n f g p q in
    let last : bit_xor (f n) (g n) ≡ (f n + g n) % 2 = xor_of_bits (f n) (g n) (p n) (q n) in
    let both : bit_xor (number_of n f * 2 + f n) (number_of n g * 2 + g n) ≡ bit_xor (number_of n f) (number_of n g) * 2 + bit_xor (f n) (g n) =
    xor_block 1 (number_of n f) (number_of n g) (f n) (g n) (p n) (q n) in
    omega (arith, front, last, both)

-- bit j, with k bits behind it
pub bit_at-number_of :
    (j k : ℕ) (f : ℕ → ℕ) → ((i : ℕ) → f i < 2) → bit_at (number_of (suc j + k) f) k ≡ f j
unfolding number_of
bit_at-number_of j k f bits =
    let low : number_of k (λ i. f (suc j + i)) < 2 ^ k = number_of-lt k (λ i. f (suc j + i)) (λ i. bits (suc j + i)) in
    let high : bit_at (number_of (suc j) f * 2 ^ k + number_of k (λ i. f (suc j + i))) k ≡ bit_at (number_of (suc j) f) (k - k) =
    bit_at_cat_high (number_of (suc j) f) k (number_of k (λ i. f (suc j + i))) k low (omega arith) in
    let none : k - k ≡ 0 = omega arith in
    let last : (number_of j f * 2 + f j) % 2 ≡ f j = omega (arith, bits j) in
    ap (λ m. bit_at m k) (number_of-append (suc j) k f) ∙ high ∙ ap (bit_at (number_of (suc j) f)) none ∙ bit_at_lowest (number_of (suc j) f) ∙ last
