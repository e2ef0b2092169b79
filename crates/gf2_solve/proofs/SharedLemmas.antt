-- The sum of the bits that two rows share.
use Rattle.std.proofs.Common.{◌≡◌, ℕ, zero, suc, ◌+◌, ◌-◌, ◌*◌, ◌/◌, ◌%◌, ◌^◌, ◌<◌, ◌≤◌, refl, sym, ap, ap₂, ◌∙◌, Bool, true, false, ◌&&◌, eqb, List, [], ◌∷◌, ◌++◌, length, get_or, take, drop, bit_and, bit_xor, count_ones, pow_pos, pow-suc, take-append-drop, arith, length-take-le}
use Rattle.std.proofs.lemmas.List.{get_or_push}
use Rattle.std.proofs.lemmas.Nat.Bits.{bit_at-zero, bit_at-suc, bit_at_lowest, bit_at_ones, bit_at_and}
use Rattle.std.proofs.lemmas.Nat.{ones-le}
use Rattle.std.specs.Int.Count.{ones_step}
use Rattle.gf2_solve.specs.Sums.{plus, sum_of}
use Rattle.gf2_solve.specs.Words.{bit_of, bits_in, low_sum}
use Rattle.std.specs.Int.{bit_at}
use Rattle.gf2_solve.proofs.SumLemmas.{plus_zero, plus_assoc, sum_of-push, sum_of-append}
use Rattle.gf2_solve.proofs.WordLemmas.{length-bits_in, bits_in-none, bits_in-next, bits_in-take, take-bits_in, digits_differ, bit_xor-bits, bit_and-bits, no_bit}

-- ---- the sum of a word's bits

pub low_sum-zero : (n : ℕ) → low_sum 0 n ≡ false
unfolding low_sum
low_sum-zero zero = refl
low_sum-zero (suc n) = ap₂ (λ (s : Bool) (d : ℕ). plus s (eqb d 1)) (low_sum-zero n) (bit_at-zero n)

pub low_sum_xor : (a b n : ℕ) → low_sum (bit_xor a b) n ≡ plus (low_sum a n) (low_sum b n)
unfolding low_sum
low_sum_xor a b zero = refl
low_sum_xor a b (suc n) =
    ap₂ plus (low_sum_xor a b n) (bit_xor-bits a b n)
    ∙ four (low_sum a n) (low_sum b n) (eqb (bit_at a n) 1) (eqb (bit_at b n) 1)
  where
    four : (s t a b : Bool) → plus (plus s t) (plus a b) ≡ plus (plus s a) (plus t b)
    four false false a b = refl
    four false true false b = refl
    four false true true false = refl
    four false true true true = refl
    four true false false b = refl
    four true false true false = refl
    four true false true true = refl
    four true true false false = refl
    four true true false true = refl
    four true true true false = refl
    four true true true true = refl

low_sum-next : (word n : ℕ) → low_sum word (n + 1) ≡ plus (low_sum word n) (eqb (bit_at word n) 1)
unfolding low_sum
low_sum-next word n = let next : n + 1 ≡ suc n = omega arith in ap (low_sum word) next

low_sum-none : (word : ℕ) → low_sum word 0 ≡ false
unfolding low_sum
low_sum-none word = refl

past_mask : (r i : ℕ) → r ≤ i → bit_at (2 ^ r - 1) i ≡ 0
past_mask r i h = no_bit (2 ^ r - 1) r i (let some = pow_pos r in omega arith) h

low_sum-mask_all : (word r : ℕ) (n : ℕ) → n ≤ r → low_sum (bit_and word (2 ^ r - 1)) n ≡ low_sum word n
unfolding low_sum
low_sum-mask_all word r zero h = refl
low_sum-mask_all word r (suc n) h = ap₂ (λ (s : Bool) (d : ℕ). plus s (eqb d 1)) (low_sum-mask_all word r n (omega arith))
    (bit_at_and word (2 ^ r - 1) n ∙ (let one = bit_at_ones r n (omega arith) in omega arith))

low_sum-mask : (word r : ℕ) (n : ℕ) → low_sum (bit_and word (2 ^ r - 1)) (r + n) ≡ low_sum word r
unfolding low_sum
low_sum-mask word r zero = let all : r + 0 ≡ r = omega arith in ap (low_sum (bit_and word (2 ^ r - 1))) all ∙ low_sum-mask_all word r r (omega arith)
low_sum-mask word r (suc n) =
    ap (low_sum (bit_and word (2 ^ r - 1))) step
    ∙ ap₂ (λ (s : Bool) (d : ℕ). plus s (eqb d 1)) (low_sum-mask word r n) none
    ∙ plus_zero (low_sum word r)
  where
    step : r + suc n ≡ suc (r + n)
    step = omega arith

    none : bit_at (bit_and word (2 ^ r - 1)) (r + n) ≡ 0
    none = bit_at_and word (2 ^ r - 1) (r + n) ∙ (let past = past_mask r (r + n) (omega arith) in omega arith)

-- the lowest bit apart
low_sum-lowest : (word n : ℕ) → low_sum word (suc n) ≡ plus (eqb (word % 2) 1) (low_sum (word / 2) n)
unfolding low_sum
low_sum-lowest word zero = ap (λ d. eqb d 1) (bit_at_lowest word) ∙ sym (plus_zero (eqb (word % 2) 1))
low_sum-lowest word (suc n) =
    ap₂ (λ (s : Bool) (d : ℕ). plus s (eqb d 1)) (low_sum-lowest word n) (bit_at-suc word n)
    ∙ plus_assoc (eqb (word % 2) 1) (low_sum (word / 2) n) (eqb (bit_at (word / 2) n) 1)

pub count_is_odd : (n word : ℕ) → word < 2 ^ n → eqb (count_ones word % 2) 1 ≡ low_sum word n
count_is_odd zero word h = let none : count_ones word ≡ 0 = (let few = ones-le 0 word h in omega arith) in ap (λ c. eqb (c % 2) 1) none ∙ sym (low_sum-none word)
count_is_odd (suc n) word h =
    ap (λ c. eqb (c % 2) 1) (ones_step word)
    ∙ ap (λ d. eqb d 1) digits
    ∙ digits_differ (word % 2) (count_ones (word / 2) % 2) (omega arith) (omega arith)
    ∙ ap (plus (eqb (word % 2) 1)) (count_is_odd n (word / 2) (omega (arith, pow-suc 2 n)))
    ∙ sym (low_sum-lowest word n)
  where
    digits : (word % 2 + count_ones (word / 2)) % 2 ≡ (word % 2 + count_ones (word / 2) % 2) % 2
    digits = omega arith

-- ---- the sum of the bits that two rows share

-- of the first n bits of each
abbrev shared : List ℕ → List ℕ → ℕ → Bool
shared row x n = sum_of (bits_in row n) (bits_in x n)

shared_more : (row x : List ℕ) (n : ℕ) → shared row x (n + 1) ≡ plus (shared row x n) (bit_of row n && bit_of x n)
shared_more row x n =
    ap₂ sum_of (bits_in-next row n) (bits_in-next x n)
    ∙ sum_of-push (bits_in row n) (bits_in x n ++ bit_of x n ∷ []) (bit_of row n)
    ∙ ap₂ (λ (s b : Bool). plus s (bit_of row n && b))
    (sum_of-append (bits_in row n) (bits_in x n) (bit_of x n ∷ []) (let a = length-bits_in row n in let b = length-bits_in x n in omega arith))
    (get_or_push (bits_in x n) (bit_of x n) false (length (bits_in row n)) (length-bits_in x n ∙ sym (length-bits_in row n)))

-- a word more, as far as its bit j
shared_word : (row x : List ℕ) (k j : ℕ) → j ≤ 64 → shared row x (64 * k + j) ≡ plus (shared row x (64 * k)) (low_sum (bit_and (get_or row k 0) (get_or x k 0)) j)
shared_word row x k zero h =
    let same : 64 * k + 0 ≡ 64 * k = omega arith in
    ap (shared row x) same ∙ sym (plus_zero (shared row x (64 * k))) ∙ ap (plus (shared row x (64 * k))) (sym (low_sum-none (bit_and (get_or row k 0) (get_or x k 0))))
shared_word row x k (suc j) h =
    ap (shared row x) step
    ∙ shared_more row x (64 * k + j)
    ∙ ap₂ plus (shared_word row x k j (omega arith)) here
    ∙ plus_assoc (shared row x (64 * k)) (low_sum word j) (eqb (bit_at word j) 1)
    ∙ ap (plus (shared row x (64 * k))) (sym (low_sum-next word j) ∙ ap (low_sum word) next)
  where
    word : ℕ
    word = bit_and (get_or row k 0) (get_or x k 0)

    next : j + 1 ≡ suc j
    next = omega arith

    step : 64 * k + suc j ≡ 64 * k + j + 1
    step = omega arith

    at : (64 * k + j) / 64 ≡ k
    at = omega arith

    place : (64 * k + j) % 64 ≡ j
    place = omega arith

    here : (bit_of row (64 * k + j) && bit_of x (64 * k + j)) ≡ eqb (bit_at word j) 1
    here = ap₂ (λ (q r : ℕ). eqb (bit_at (get_or row q 0) r) 1 && eqb (bit_at (get_or x q 0) r) 1) at place
        ∙ sym (bit_and-bits (get_or row k 0) (get_or x k 0) j)

pub summed_none : (row x : List ℕ) → low_sum 0 64 ≡ sum_of (bits_in row (64 * 0)) (bits_in x (64 * 0))
summed_none row x = low_sum-zero 64 ∙ sym (ap (λ row. sum_of row (bits_in x 0)) (bits_in-none row))

pub summed_more : (row x : List ℕ) (k sums : ℕ) → low_sum sums 64 ≡ sum_of (bits_in row (64 * k)) (bits_in x (64 * k))
    → low_sum (bit_xor sums (bit_and (get_or row k 0) (get_or x k 0))) 64 ≡ sum_of (bits_in row (64 * (k + 1))) (bits_in x (64 * (k + 1)))
summed_more row x k sums is =
    let more : 64 * k + 64 ≡ 64 * (k + 1) = omega arith in
    low_sum_xor sums (bit_and (get_or row k 0) (get_or x k 0)) 64
    ∙ ap (λ s. plus s (low_sum (bit_and (get_or row k 0) (get_or x k 0)) 64)) is
    ∙ sym (shared_word row x k 64 (omega arith))
    ∙ ap (shared row x) more

-- and the lowest r bits of the next word
pub summed_rest : (row x : List ℕ) (k r n sums : ℕ) → r < 64 → 64 * k + r ≡ n → low_sum sums 64 ≡ sum_of (bits_in row (64 * k)) (bits_in x (64 * k))
    → low_sum (bit_xor sums (bit_and (bit_and (get_or row k 0) (get_or x k 0)) (2 ^ r - 1))) 64 ≡ sum_of (bits_in row n) (bits_in x n)
summed_rest row x k r n sums h all is =
    let word : ℕ = bit_and (get_or row k 0) (get_or x k 0) in
    let whole : r + (64 - r) ≡ 64 = omega arith in
    low_sum_xor sums (bit_and word (2 ^ r - 1)) 64
    ∙ ap₂ plus is (ap (low_sum (bit_and word (2 ^ r - 1))) (sym whole) ∙ low_sum-mask word r (64 - r))
    ∙ sym (shared_word row x k r (omega arith))
    ∙ ap (shared row x) all

-- the sum of a row at a vector of more bits, each by its words
pub sum_front : (row x : List ℕ) (n : ℕ) (left right : List Bool) → length left ≡ n → length left ≤ length right
    → bits_in row (length left) ≡ left → bits_in x (length right) ≡ right → sum_of (bits_in row n) (bits_in x n) ≡ sum_of left right
sum_front row x n left right long h left_is right_is =
    ap (λ n. sum_of (bits_in row n) (bits_in x n)) (sym long)
    ∙ sym (sum_of-append (bits_in row (length left)) (bits_in x (length left)) (drop (length left) (bits_in x (length right)))
    (let a = length-bits_in row (length left) in let b = length-bits_in x (length left) in omega arith))
    ∙ ap (sum_of (bits_in row (length left))) (ap (λ front. front ++ drop (length left) (bits_in x (length right))) (sym (take-bits_in x (length left) (length right) h))
    ∙ take-append-drop (length left) (bits_in x (length right)))
    ∙ ap₂ sum_of left_is right_is

-- words up to the k-th have the bits below 64 * k
pub summed_front : (row x : List ℕ) (k sums : ℕ) → k ≤ length row
    → low_sum sums 64 ≡ sum_of (bits_in (take k row) (64 * length (take k row))) (bits_in x (64 * length (take k row)))
    → low_sum sums 64 ≡ sum_of (bits_in row (64 * k)) (bits_in x (64 * k))
summed_front row x k sums h is =
    let long : length (take k row) ≡ k = length-take-le k row h in
    is
    ∙ ap (λ n. sum_of (bits_in (take k row) (64 * n)) (bits_in x (64 * n))) long
    ∙ ap (λ (row : List Bool). sum_of row (bits_in x (64 * k))) (bits_in-take row k (64 * k) (omega arith))

pub summed_all : (row x : List ℕ) (k n sums : ℕ) → 64 * k ≡ n → low_sum sums 64 ≡ sum_of (bits_in row (64 * k)) (bits_in x (64 * k))
    → low_sum sums 64 ≡ sum_of (bits_in row n) (bits_in x n)
summed_all row x k n sums all is = is ∙ ap (shared row x) all
