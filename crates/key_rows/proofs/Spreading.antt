-- Keys spread exactly where their table index is not constant.
use Rattle.std.proofs.Common.{◌≡◌, ℕ, zero, suc, ◌+◌, ◌-◌, ◌*◌, ◌/◌, ◌%◌, ◌^◌, ◌<◌, ◌≤◌, ◌⊎◌, ◌==◌, Bool, true, false, if◌then◌else◌, refl, ap, sym, ◌∙◌, List, length, arith, inl, inr}
use Rattle.std.specs.Int.{bit_at}
use Rattle.std.proofs.Math.Nat.{mul-mod_left}
use Rattle.std.proofs.lemmas.Bool.{cases_eq, cases_lt}
use Rattle.std.proofs.lemmas.Nat.{shr_split}
use Rattle.std.proofs.lemmas.Nat.Bits.{bit_at_cat_low}
use Rattle.nf_base.specs.declared.hash_fields.Hashable.TheVariants.{SrcIp, DstIp}
use Rattle.toeplitz_hash.specs.Bits.{bit_of, number_of}
use Rattle.toeplitz_hash.specs.Toeplitz.{sum_below, hash_bit, hash_of_bits, toeplitz_of}
use Rattle.toeplitz_hash.proofs.Sums.{sum_below-zero, sum_below-one}
use Rattle.toeplitz_hash.proofs.Numbers.{number_of-lt, number_of-append, number_of-zero, bit_at-number_of}
use Rattle.toeplitz_hash.proofs.Bytes.{bit_of-lt}
use Rattle.toeplitz_hash.proofs.Linear.{hashes_have_bits}
use Rattle.key_rows.proofs.Sums.{at_same, at_other}
use Rattle.nf_base.specs.declared.packet.Family.{Family}
use Rattle.nf_base.specs.declared.packet.Fields.{Fields}
use Rattle.nf_base.specs.Hashed.{address_width, value}
use Rattle.key_rows.specs.Places.{IsInputOf, input_bits}
use Rattle.toeplitz_hash.specs.Packets.{input_bytes}
use Rattle.key_rows.specs.Spread.{Spreads, index_of, Varies}
use Rattle.toeplitz_hash.specs.Laws.{IsLaidOut}
use Rattle.key_rows.specs.Spread.{SpreadingKeysVary}
use Rattle.key_rows.proofs.Windowed.{hashed, laid_of}
use Rattle.key_rows.proofs.Inputs.{source_with, destination_with, input_with, is_input}

-- a 1 at bit o
abbrev bit_at_only : ℕ → ℕ → ℕ
bit_at_only o i = (if i == o then 1 else 0)

only_bit : (o i : ℕ) → bit_at_only o i < 2
only_bit o i = of_test (i == o)
  where
    of_test : (t : Bool) → (if t then 1 else 0) < 2
    of_test true = omega arith
    of_test false = omega arith

not_one : (b : ℕ) → b < 2 → (b ≡ 1 → ⊥) → b ≡ 0
not_one b small other = omega arith

-- the first 1 of some bits, if there is one
search_one : (f : Family) (low : ℕ) (key : List ℕ) (n : ℕ) → n ≤ input_bits f + 31 → Spreads f low key ⊎ ((m : ℕ) → 32 - low ≤ m → m < n → bit_of key m ≡ 0)
search_one f low key zero within = inr (λ m from below. absurd (omega arith))
search_one f low key (suc n) within =
    elim (search_one f low key n (omega arith)) [
      | inl found ↦ inl found
      | inr zeros ↦
          elim (cases_lt n (32 - low)) [
            | inl early ↦ inr (λ m from below. zeros m from (omega arith))
            | inr late ↦
                elim (cases_eq (bit_of key n) 1) [
                  | inl one ↦ inl (record { bit = n; from = late; to = omega arith; one = one })
                  | inr other ↦
                      inr (λ m from below.
                      elim (cases_eq m n) [
                        | inl same ↦ let small : bit_of key n < 2 = bit_of-lt key n in ap (bit_of key) same ∙ not_one (bit_of key n) small other
                        | inr before ↦ zeros m from (omega arith)
                      ])
                ]
          ]
    ]

-- Where no bit of the input meets a 1 the hash bit is 0.
no_bit : (f : Family) (key : List ℕ) (p : Fields) (j : ℕ) → IsInputOf f p → ((k : ℕ) → k < input_bits f → bit_of key (k + j) ≡ 0) → hashed key p j ≡ 0
unfolding hash_bit
no_bit f key p j fits none =
    let laid : IsLaidOut (address_width f) (input_bytes p) (value p SrcIp) (value p DstIp) p.src_port p.dst_port = laid_of f p fits in
    let sum : sum_below (8 * length (input_bytes p)) (λ k. bit_of (input_bytes p) k * bit_of key (k + j)) ≡ 0 =
    sum_below-zero (8 * length (input_bytes p)) (λ k. bit_of (input_bytes p) k * bit_of key (k + j)) (λ k below. rw (none k (omega (arith, laid.bits, below))) (omega arith)) in
    omega (arith, sum)

-- Where the bits are all 0 each table index is 0.
constant : (f : Family) (low : ℕ) (key : List ℕ) → low ≤ 32 → ((m : ℕ) → 32 - low ≤ m → m < input_bits f + 31 → bit_of key m ≡ 0) → (p : Fields) → IsInputOf f p → index_of low key p ≡ 0
unfolding toeplitz_of hash_of_bits
constant f low key least zeros p fits =
    let count : 32 ≡ 32 - low + low = omega arith in
    let parts : number_of (32 - low + low) (hashed key p) ≡ number_of (32 - low) (hashed key p) * 2 ^ low + number_of low (λ i. hashed key p (32 - low + i)) = number_of-append (32 - low) low (hashed key p) in
    let none : number_of low (λ i. hashed key p (32 - low + i)) ≡ 0 = number_of-zero low (λ i. hashed key p (32 - low + i)) (λ i below. no_bit f key p (32 - low + i) fits (λ k small. zeros (k + (32 - low + i)) (omega arith) (omega arith))) in
    ap (λ m. number_of m (hashed key p) % 2 ^ low) count
    ∙ ap (λ m. m % 2 ^ low) (omega (arith, parts, none))
    ∙ mul-mod_left (number_of (32 - low) (hashed key p)) (2 ^ low)

-- the four fields of some bits, in the order of the input
abbrev fields_of_bits : ℕ → (ℕ → ℕ) → ℕ → ℕ
fields_of_bits w h zero = number_of w h
fields_of_bits w h (suc zero) = number_of w (λ o. h (w + o))
fields_of_bits w h (suc (suc zero)) = number_of 16 (λ o. h (w + w + o))
fields_of_bits w h (suc (suc (suc n))) = number_of 16 (λ o. h (w + w + 16 + o))

-- the input of a family that has some bits
abbrev input_of_bits : Family → (ℕ → ℕ) → Fields
input_of_bits f h = input_with f (fields_of_bits (address_width f) h)

is_input_of_bits : (f : Family) (h : ℕ → ℕ) → ((i : ℕ) → h i < 2) → IsInputOf f (input_of_bits f h)
is_input_of_bits f h bits =
    let w : ℕ = address_width f in
    is_input f (fields_of_bits (address_width f) h)
    (number_of-lt w h bits)
    (number_of-lt w (λ o. h (w + o)) (λ o. bits (w + o)))
    (number_of-lt 16 (λ o. h (w + w + o)) (λ o. bits (w + w + o)))
    (number_of-lt 16 (λ o. h (w + w + 16 + o)) (λ o. bits (w + w + 16 + o)))

bit_in : (w : ℕ) (h : ℕ → ℕ) → ((i : ℕ) → h i < 2) → (i : ℕ) → i < w → bit_at (number_of w h) (w - 1 - i) ≡ h i
bit_in w h bits i within = ap (λ m. bit_at (number_of m h) (w - 1 - i)) (omega arith) ∙ bit_at-number_of i (w - 1 - i) h bits

moved : (f g : ℕ → ℕ) (start i : ℕ) → start ≤ i → f (start + (i - start)) ≡ g (start + (i - start)) → f i ≡ g i
moved f g start i from same =
    let there : start + (i - start) ≡ i = omega arith in
    ap f (sym there) ∙ same ∙ ap g there

-- Any so many bits are some packet's input.
input_bit : (f : Family) (h : ℕ → ℕ) → ((i : ℕ) → h i < 2) → (i : ℕ) → i < input_bits f → bit_of (input_bytes (input_of_bits f h)) i ≡ h i
input_bit f h bits i within =
    let w : ℕ = address_width f in
    let p : Fields = input_of_bits f h in
    let laid : IsLaidOut (address_width f) (input_bytes p) (value p SrcIp) (value p DstIp) p.src_port p.dst_port = laid_of f p (is_input_of_bits f h bits) in
    let source : value p SrcIp ≡ number_of w h = source_with f (number_of w h) (number_of w (λ o. h (w + o))) in
    let destination : value p DstIp ≡ number_of w (λ o. h (w + o)) = destination_with f (number_of w h) (number_of w (λ o. h (w + o))) in
    elim (cases_lt i w) [
      | inl first ↦ laid.src_ip i first ∙ ap (λ (m : ℕ). bit_at m (w - 1 - i)) source ∙ bit_in w h bits i first
      | inr past ↦
          elim (cases_lt i (w + w)) [
            | inl second ↦
                moved (bit_of (input_bytes p)) h w i past
                (laid.dst_ip (i - w) (omega arith) ∙ ap (λ (m : ℕ). bit_at m (w - 1 - (i - w))) destination ∙ bit_in w (λ o. h (w + o)) (λ o. bits (w + o)) (i - w) (omega arith))
            | inr further ↦
                elim (cases_lt i (w + w + 16)) [
                  | inl third ↦ moved (bit_of (input_bytes p)) h (w + w) i further (laid.src_port (i - (w + w)) (omega arith) ∙ bit_in 16 (λ o. h (w + w + o)) (λ o. bits (w + w + o)) (i - (w + w)) (omega arith))
                  | inr last ↦ moved (bit_of (input_bytes p)) h (w + w + 16) i last (laid.dst_port (i - (w + w + 16)) (omega arith) ∙ bit_in 16 (λ o. h (w + w + 16 + o)) (λ o. bits (w + w + 16 + o)) (i - (w + w + 16)) (omega arith))
                ]
          ]
    ]

long : (f : Family) (h : ℕ → ℕ) → ((i : ℕ) → h i < 2) → 8 * length (input_bytes (input_of_bits f h)) ≡ input_bits f
long f h bits = (laid_of f (input_of_bits f h) (is_input_of_bits f h bits)).bits

-- bit j of the hash of an input with one 1, and of one with none
one_hashed : (f : Family) (key : List ℕ) (i j : ℕ) → i < input_bits f → hashed key (input_of_bits f (bit_at_only i)) j ≡ bit_of key (i + j)
unfolding hash_bit
one_hashed f key i j within =
    let input : List ℕ = input_bytes (input_of_bits f (bit_at_only i)) in
    let count : 8 * length input ≡ input_bits f = long f (bit_at_only i) (only_bit i) in
    let one : bit_of input i ≡ 1 = input_bit f (bit_at_only i) (only_bit i) i within ∙ at_same i i 1 0 refl in
    let sum : sum_below (8 * length input) (λ k. bit_of input k * bit_of key (k + j)) ≡ bit_of input i * bit_of key (i + j) =
    sum_below-one (8 * length input) i (λ k. bit_of input k * bit_of key (k + j)) (omega (arith, count, within))
    (λ k below other.
    let none : bit_of input k ≡ 0 = input_bit f (bit_at_only i) (only_bit i) k (omega (arith, count, below)) ∙ at_other k i 1 0 other in
    rw none (omega arith)) in
    let product : bit_of input i * bit_of key (i + j) ≡ bit_of key (i + j) = rw one (omega arith) in
    let small : bit_of key (i + j) < 2 = bit_of-lt key (i + j) in
    omega (arith, sum, product, small)

none_hashed : (f : Family) (key : List ℕ) (j : ℕ) → hashed key (input_of_bits f (λ i. 0)) j ≡ 0
unfolding hash_bit
none_hashed f key j =
    let input : List ℕ = input_bytes (input_of_bits f (λ i. 0)) in
    let count : 8 * length input ≡ input_bits f = long f (λ i. 0) (λ i. omega arith) in
    let sum : sum_below (8 * length input) (λ k. bit_of input k * bit_of key (k + j)) ≡ 0 =
    sum_below-zero (8 * length input) (λ k. bit_of input k * bit_of key (k + j))
    (λ k below. let none : bit_of input k ≡ 0 = input_bit f (λ i. 0) (λ i. omega arith) k (omega (arith, count, below)) in rw none (omega arith)) in
    omega (arith, sum)

-- the low bits of a hash are its last ones
low_bit : (low hash k : ℕ) → k < low → bit_at (hash % 2 ^ low) k ≡ bit_at hash k
low_bit low hash k below =
    sym (bit_at_cat_low (hash / 2 ^ low) low (hash % 2 ^ low) k below) ∙ ap (λ (m : ℕ). bit_at m k) (shr_split hash low)

varies_at : (f : Family) (low : ℕ) (key : List ℕ) (i j : ℕ) → low ≤ 32 → i < input_bits f → 32 - low ≤ j → j < 32 → bit_of key (i + j) ≡ 1 → Varies f low key
varies_at f low key i j least within from high one =
    let p : Fields = input_of_bits f (bit_at_only i) in
    let q : Fields = input_of_bits f (λ k. 0) in
    record {
      first = p;
      second = q;
      first_fits = is_input_of_bits f (bit_at_only i) (only_bit i);
      second_fits = is_input_of_bits f (λ k. 0) (λ k. omega arith);
      differ = λ same.
          let is_one : bit_at (index_of low key p) (31 - j) ≡ 1 =
          low_bit low (toeplitz_of key (input_bytes p)) (31 - j) (omega arith) ∙ (hashes_have_bits key (input_bytes p)).bits j high ∙ one_hashed f key i j within ∙ one in
          let is_zero : bit_at (index_of low key q) (31 - j) ≡ 0 =
          low_bit low (toeplitz_of key (input_bytes q)) (31 - j) (omega arith) ∙ (hashes_have_bits key (input_bytes q)).bits j high ∙ none_hashed f key j in
          let equal : bit_at (index_of low key p) (31 - j) ≡ bit_at (index_of low key q) (31 - j) = ap (λ (m : ℕ). bit_at m (31 - j)) same in
          omega (arith, is_one, is_zero, equal);
    }

pub spreading_keys_vary : SpreadingKeysVary
spreading_keys_vary f low key some least = (varies, spreads)
  where
    varies : Spreads f low key → Varies f low key
    varies found =
        elim (cases_lt found.bit (input_bits f + (32 - low))) [
          | inl early ↦ varies_at f low key (found.bit - (32 - low)) (32 - low) least (omega (arith, found.from, early)) (omega arith) (omega arith) (ap (bit_of key) (omega (arith, found.from)) ∙ found.one)
          | inr late ↦ varies_at f low key (input_bits f - 1) (found.bit - (input_bits f - 1)) least (omega arith) (omega (arith, late)) (omega (arith, late, found.to)) (ap (bit_of key) (omega (arith, late)) ∙ found.one)
        ]

    spreads : Varies f low key → Spreads f low key
    spreads two =
        elim (search_one f low key (input_bits f + 31) (omega arith)) [
          | inl found ↦ found
          | inr zeros ↦ absurd (two.differ (constant f low key least zeros two.first two.first_fits ∙ sym (constant f low key least zeros two.second two.second_fits)))
        ]
