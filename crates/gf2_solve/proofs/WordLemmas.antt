-- Bits that are kept 64 to a word.
use Rattle.std.proofs.Common.{◌≡◌, ℕ, zero, suc, ◌+◌, ◌*◌, ◌/◌, ◌%◌, ◌^◌, ◌<◌, ◌≤◌, refl, sym, ap, ap₂, ◌∙◌, Bool, false, ◌&&◌, eqb, List, [], ◌∷◌, ◌++◌, length, get_or, take, replicate, bit_and, bit_xor, min, pow_mono, arith, ext_get_or}
use Rattle.std.proofs.lemmas.List.{length-replicate, get_or-replicate, get_or-take}
use Rattle.std.proofs.lemmas.List.FromFn.{length-map-range_with_len, get_or-map-range_with_len, take-map-range_with_len, map-range_with_len_more}
use Rattle.std.proofs.lemmas.Nat.Bits.{bit_at-zero, bit_at_xor, bit_at_and}
use Rattle.std.proofs.Math.Nat.{div-eq_of_lt}
use Rattle.gf2_solve.specs.Sums.{plus, bit}
use Rattle.gf2_solve.specs.Words.{bit_of, bits_in}
use Rattle.std.specs.Int.{bit_at}

-- ---- the list of the bits

pub length-bits_in : (words : List ℕ) (n : ℕ) → length (bits_in words n) ≡ n
unfolding bits_in
length-bits_in words n = length-map-range_with_len (bit_of words) 0 n

pub bit-bits_in : (words : List ℕ) (n i : ℕ) → i < n → bit (bits_in words n) i ≡ bit_of words i
unfolding bits_in
bit-bits_in words n i h = get_or-map-range_with_len (bit_of words) 0 n i i false h (omega arith)

pub bits_in-none : (words : List ℕ) → bits_in words 0 ≡ []
unfolding bits_in
bits_in-none words = refl

pub bits_in-next : (words : List ℕ) (n : ℕ) → bits_in words (n + 1) ≡ bits_in words n ++ bit_of words n ∷ []
unfolding bits_in
bits_in-next words n = map-range_with_len_more (bit_of words) 0 n n (omega arith)

-- the bits are those of each words that have them
pub bits_in-same : (words others : List ℕ) (n : ℕ) → ((i : ℕ) → i < n → bit_of words i ≡ bit_of others i) → bits_in words n ≡ bits_in others n
bits_in-same words others n same =
    ext_get_or false _ _ (length-bits_in words n ∙ sym (length-bits_in others n))
    (λ i h.
    let below : i < n = let long = length-bits_in words n in omega arith in
    bit-bits_in words n i below ∙ same i below ∙ sym (bit-bits_in others n i below))

-- the bits of more words and one more
pub bits_in-more : (words others : List ℕ) (n : ℕ) (b : Bool) → ((i : ℕ) → i < n → bit_of words i ≡ bit_of others i) → bit_of words n ≡ b
    → bits_in words (n + 1) ≡ bits_in others n ++ b ∷ []
bits_in-more words others n b same is =
    bits_in-next words n ∙ ap₂ (λ (front : List Bool) (b : Bool). front ++ b ∷ []) (bits_in-same words others n same) is

pub bits_in-take : (words : List ℕ) (k n : ℕ) → n ≤ 64 * k → bits_in (take k words) n ≡ bits_in words n
bits_in-take words k n within =
    bits_in-same (take k words) words n (λ i h. ap (λ word. eqb (bit_at word (i % 64)) 1) (get_or-take k words (i / 64) 0 (omega arith)))

pub bits_in-zeros : (k n : ℕ) → bits_in (replicate k 0) n ≡ replicate n false
bits_in-zeros k n =
    ext_get_or false _ _ (length-bits_in (replicate k 0) n ∙ sym (length-replicate n false))
    (λ i h.
    let below : i < n = let long = length-bits_in (replicate k 0) n in omega arith in
    bit-bits_in (replicate k 0) n i below
    ∙ ap (λ word. eqb (bit_at word (i % 64)) 1) (zero_word k (i / 64))
    ∙ ap (λ b. eqb b 1) (bit_at-zero (i % 64))
    ∙ sym (get_or-replicate n i false false below))
  where
    zero_word : (k i : ℕ) → get_or {A = ℕ} (replicate k 0) i 0 ≡ zero
    zero_word zero i = refl
    zero_word (suc k) zero = refl
    zero_word (suc k) (suc i) = zero_word k i

pub take-bits_in : (words : List ℕ) (n m : ℕ) → n ≤ m → take n (bits_in words m) ≡ bits_in words n
unfolding bits_in
take-bits_in words n m h = take-map-range_with_len (bit_of words) 0 m n h

-- ---- a word

pub digits_differ : (p q : ℕ) → p < 2 → q < 2 → eqb ((p + q) % 2) 1 ≡ plus (eqb p 1) (eqb q 1)
digits_differ zero zero hp hq = refl
digits_differ zero (suc zero) hp hq = refl
digits_differ (suc zero) zero hp hq = refl
digits_differ (suc zero) (suc zero) hp hq = refl
digits_differ (suc (suc p)) q hp hq = absurd (omega arith)
digits_differ zero (suc (suc q)) hp hq = absurd (omega arith)
digits_differ (suc zero) (suc (suc q)) hp hq = absurd (omega arith)

digits_meet : (p q : ℕ) → p < 2 → q < 2 → eqb (min p q) 1 ≡ (eqb p 1 && eqb q 1)
digits_meet zero q hp hq = let none : min 0 q ≡ 0 = omega arith in ap (λ d. eqb d 1) none
digits_meet (suc zero) zero hp hq = refl
digits_meet (suc zero) (suc zero) hp hq = refl
digits_meet (suc (suc p)) q hp hq = absurd (omega arith)
digits_meet (suc zero) (suc (suc q)) hp hq = absurd (omega arith)

pub bit_xor-bits : (a b i : ℕ) → eqb (bit_at (bit_xor a b) i) 1 ≡ plus (eqb (bit_at a i) 1) (eqb (bit_at b i) 1)
bit_xor-bits a b i = ap (λ d. eqb d 1) (bit_at_xor a b i) ∙ digits_differ (bit_at a i) (bit_at b i) (omega arith) (omega arith)

pub bit_and-bits : (a b i : ℕ) → eqb (bit_at (bit_and a b) i) 1 ≡ (eqb (bit_at a i) 1 && eqb (bit_at b i) 1)
bit_and-bits a b i = ap (λ d. eqb d 1) (bit_at_and a b i) ∙ digits_meet (bit_at a i) (bit_at b i) (omega arith) (omega arith)

-- a number below 2 ^ n has no 1 from place n on
pub no_bit : (a n i : ℕ) → a < 2 ^ n → n ≤ i → bit_at a i ≡ 0
no_bit a n i h le = ap (λ q. q % 2) (div-eq_of_lt (let more : 2 ^ n ≤ 2 ^ i = pow_mono le in omega arith))
