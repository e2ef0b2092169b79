-- Zeros at the end of a row.
use Rattle.std.proofs.Common.{◌≡◌, ℕ, zero, suc, ◌+◌, ◌-◌, ◌^◌, ◌<◌, ◌≤◌, sym, ap, ◌∙◌, subst, Bool, false, ◌&&◌, List, length, bit_and, inl, inr, pow_pos, pow_mono, arith, eq-zero-or-pos}
use Rattle.std.proofs.lemmas.Bool.{cases_lt}
use Rattle.std.proofs.lemmas.Nat.Bits.{bit_at_ones, bit_at_and}
use Rattle.std.proofs.lemmas.Nat.{and_le_r, leading_top}
use Rattle.std.specs.Int.Count.{count_leading_zeros, leading_of_zero}
use Rattle.gf2_solve.specs.Sums.{plus, bit, sum_of, HasSameSums}
use Rattle.gf2_solve.specs.Words.{bit_of, bits_in}
use Rattle.std.specs.Int.{bit_at}
use Rattle.gf2_solve.proofs.SumLemmas.{plus_zero, sum_of-push}
use Rattle.gf2_solve.proofs.WordLemmas.{bits_in-next, no_bit}

-- a number below 2 ^ 64 has no 1 from its leading zeros on
no_more : (a : ℕ) → a < 2 ^ 64 → a < 2 ^ (64 - count_leading_zeros 64 a)
no_more a h = elim (eq-zero-or-pos a) [
  | inl none ↦ let some = pow_pos (64 - count_leading_zeros 64 a) in omega (arith, none)
  | inr some ↦
      let top = leading_top 64 a some h in
      let same : suc top.0 ≡ 64 - count_leading_zeros 64 a = omega (arith, top.1) in
      subst (λ n. a < 2 ^ n) same top.3
]

low_fits : (word count : ℕ) → bit_and word (2 ^ count - 1) < 2 ^ count
low_fits word count = let le = and_le_r word (2 ^ count - 1) in let some = pow_pos count in omega arith

pub trimmed_within : (word count : ℕ) → count ≤ 64 → 64 - count_leading_zeros 64 (bit_and word (2 ^ count - 1)) ≤ count
trimmed_within word count fits = elim (eq-zero-or-pos (bit_and word (2 ^ count - 1))) [
  | inl none ↦ let all = ap (count_leading_zeros 64) none ∙ leading_of_zero 64 in omega (arith, all)
  | inr some ↦
      let low = low_fits word count in
      let word_fits : 2 ^ count ≤ 2 ^ 64 = pow_mono fits in
      let top = leading_top 64 (bit_and word (2 ^ count - 1)) some (omega arith) in
      elim (cases_lt top.0 count) [
        | inl below ↦ omega (arith, top.1)
        | inr past ↦ let more : 2 ^ count ≤ 2 ^ top.0 = pow_mono past in absurd (omega (arith, top.2))
      ]
]

pub trimmed_zeros : (word count i : ℕ) → count ≤ 64 → 64 - count_leading_zeros 64 (bit_and word (2 ^ count - 1)) ≤ i → i < count → bit_at word i ≡ 0
trimmed_zeros word count i fits past within =
    let low = low_fits word count in
    let word_fits : 2 ^ count ≤ 2 ^ 64 = pow_mono fits in
    let none = no_bit (bit_and word (2 ^ count - 1)) _ i (no_more (bit_and word (2 ^ count - 1)) (omega arith)) past in
    omega (arith, none, bit_at_and word (2 ^ count - 1) i, bit_at_ones count i within)

pub trimmed_sums : (words : List ℕ) (m n : ℕ) → m ≤ n → ((i : ℕ) → m ≤ i → i < n → bit_of words i ≡ false) → HasSameSums (bits_in words m) (bits_in words n)
trimmed_sums words m n h zeros = record { sums = λ x. sym (by_count (n - m) (omega arith) x) ∙ ap (λ k. sum_of (bits_in words k) x) all }
  where
    all : m + (n - m) ≡ n
    all = omega arith

    by_count : (d : ℕ) → m + d ≤ n → (x : List Bool) → sum_of (bits_in words (m + d)) x ≡ sum_of (bits_in words m) x
    by_count zero le x = let same : m + 0 ≡ m = omega arith in ap (λ k. sum_of (bits_in words k) x) same
    by_count (suc d) le x =
        let next : m + suc d ≡ m + d + 1 = omega arith in
        ap (λ k. sum_of (bits_in words k) x) next
        ∙ ap (λ row. sum_of row x) (bits_in-next words (m + d))
        ∙ sum_of-push (bits_in words (m + d)) x (bit_of words (m + d))
        ∙ ap (λ b. plus (sum_of (bits_in words (m + d)) x) (b && bit x (length (bits_in words (m + d))))) (zeros (m + d) (omega arith) (omega arith))
        ∙ plus_zero (sum_of (bits_in words (m + d)) x)
        ∙ by_count d (omega arith) x
