-- The hash is a sum modulo 2 in the bits of the key, and in those of the input.
use Rattle.std.proofs.Common.{List, ◌≡◌, ℕ, zero, suc, ◌+◌, ◌-◌, ◌*◌, ◌%◌, ◌<◌, refl, ap, ◌∙◌, length, arith}
use Rattle.std.specs.Int.{bit_at}
use Rattle.std.specs.Int.Bits.{bit_xor}
use Rattle.toeplitz_hash.specs.Bits.{bit_of, number_of}
use Rattle.toeplitz_hash.specs.Toeplitz.{sum_below, hash_bit, hash_of_bits, toeplitz_of}
use Rattle.toeplitz_hash.specs.Packets.{positions, input_by}
use Rattle.nf_base.specs.declared.packet.Addresses.{Addresses}
use Rattle.nf_base.specs.declared.packet.Addresses.TheVariants as addresses
use Rattle.nf_base.specs.Families.{family_by}
use Rattle.toeplitz_hash.specs.Laws.{HashesHaveBits, IsLinearInKey, IsLinearInInput, OnlyFirstBitsMatter, OnlyPositionsMatter, AgreeBelow, ZerosHashToZero}
use Rattle.toeplitz_hash.proofs.Sums.{sum_below-sum, sum_below-zero}
use Rattle.toeplitz_hash.proofs.Numbers.{number_of-lt, number_of-same, number_of-zero, number_of-xor, bit_at-number_of}
use Rattle.toeplitz_hash.proofs.Bytes.{bit_of-lt}
use Rattle.toeplitz_hash.proofs.Hashes.{hash_bit-lt, hash_of_bits-same}

pub hashes_have_bits : HashesHaveBits
unfolding toeplitz_of hash_of_bits
hashes_have_bits key input =
    let bit : ℕ → ℕ = hash_bit (8 * length input) (bit_of key) (bit_of input) in
    let below : (j : ℕ) → bit j < 2 = hash_bit-lt (8 * length input) (bit_of key) (bit_of input) in
    record {
      fits = number_of-lt 32 bit below;
      bits = λ j within. ap (λ (n : ℕ). bit_at (number_of n bit) (31 - j)) (omega arith) ∙ bit_at-number_of j (31 - j) bit below;
    }

times_sum : (x sum a b : ℕ) → x < 2 → sum ≡ (a + b) % 2 → (x * sum) % 2 ≡ (x * a + x * b) % 2
times_sum zero sum a b bit is = omega arith
times_sum (suc zero) sum a b bit is = omega arith
times_sum (suc (suc x)) sum a b bit is = absurd (omega arith)

sum_times : (x sum a b : ℕ) → x < 2 → sum ≡ (a + b) % 2 → (sum * x) % 2 ≡ (a * x + b * x) % 2
sum_times zero sum a b bit is = omega arith
sum_times (suc zero) sum a b bit is = omega arith
sum_times (suc (suc x)) sum a b bit is = absurd (omega arith)

-- Where each product is a sum modulo 2 of two others, so is the hash.
hash_of_bits-sum : (n : ℕ) (key left right input first second : ℕ → ℕ)
    → ((i j : ℕ) → (input i * key (i + j)) % 2 ≡ (first i * left (i + j) + second i * right (i + j)) % 2)
    → hash_of_bits n key input ≡ bit_xor (hash_of_bits n left first) (hash_of_bits n right second)
unfolding hash_of_bits hash_bit
hash_of_bits-sum n key left right input first second sums =
    number_of-same 32 (hash_bit n key input) (λ j. (hash_bit n left first j + hash_bit n right second j) % 2)
    (λ j within.
    let sum : sum_below n (λ i. input i * key (i + j)) % 2 ≡ (sum_below n (λ i. first i * left (i + j)) + sum_below n (λ i. second i * right (i + j))) % 2 =
    sum_below-sum n (λ i. input i * key (i + j)) (λ i. first i * left (i + j)) (λ i. second i * right (i + j)) (λ i below. sums i j) in
    omega (arith, sum))
    ∙ number_of-xor 32 (hash_bit n left first) (hash_bit n right second) (hash_bit-lt n left first) (hash_bit-lt n right second)

pub is_linear_in_key : IsLinearInKey
unfolding toeplitz_of
is_linear_in_key left right sum input is =
    hash_of_bits-sum (8 * length input) (bit_of sum) (bit_of left) (bit_of right) (bit_of input) (bit_of input) (bit_of input)
    (λ i j. times_sum (bit_of input i) (bit_of sum (i + j)) (bit_of left (i + j)) (bit_of right (i + j)) (bit_of-lt input i) (is.bits (i + j)))

pub is_linear_in_input : IsLinearInInput
unfolding toeplitz_of
is_linear_in_input key left right sum p q is =
    let sums : hash_of_bits (8 * length sum) (bit_of key) (bit_of sum) ≡ bit_xor (hash_of_bits (8 * length sum) (bit_of key) (bit_of left)) (hash_of_bits (8 * length sum) (bit_of key) (bit_of right)) =
    hash_of_bits-sum (8 * length sum) (bit_of key) (bit_of key) (bit_of key) (bit_of sum) (bit_of left) (bit_of right)
    (λ i j. sum_times (bit_of key (i + j)) (bit_of sum i) (bit_of left i) (bit_of right i) (bit_of-lt key (i + j)) (is.bits i)) in
    rw (p, q) sums

pub only_first_bits_matter : OnlyFirstBitsMatter
unfolding toeplitz_of
only_first_bits_matter left right input agree =
    hash_of_bits-same (8 * length input) (bit_of left) (bit_of right) (bit_of input) (bit_of input) agree.bits (λ i h. refl)

pub zeros_hash_to_zero : ZerosHashToZero
unfolding toeplitz_of hash_of_bits hash_bit
zeros_hash_to_zero key input zeros =
    number_of-zero 32 (hash_bit (8 * length input) (bit_of key) (bit_of input))
    (λ j within.
    let none : sum_below (8 * length input) (λ i. bit_of input i * bit_of key (i + j)) ≡ 0 =
    sum_below-zero (8 * length input) (λ i. bit_of input i * bit_of key (i + j)) (λ i below. rw (zeros.bits (i + j)) (omega arith)) in
    omega (arith, none))

positions_by :
    (left right : List ℕ) (a : Addresses) (x y : ℕ) → AgreeBelow (positions (family_by a)) left right
    → toeplitz_of left (input_by a x y) ≡ toeplitz_of right (input_by a x y)
positions_by left right (addresses.Four s d) x y agree =
    only_first_bits_matter left right (input_by (addresses.Four s d) x y) (record { bits = agree.bits })
positions_by left right (addresses.Six s d) x y agree =
    only_first_bits_matter left right (input_by (addresses.Six s d) x y) (record { bits = agree.bits })

pub only_positions_matter : OnlyPositionsMatter
only_positions_matter left right fields agree =
    positions_by left right fields.addresses fields.src_port fields.dst_port agree
