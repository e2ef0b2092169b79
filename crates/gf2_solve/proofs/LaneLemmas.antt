-- Words that are added, one by one and four at a time.
use Rattle.std.proofs.Common.{◌≡◌, ◌≢◌, ℕ, zero, suc, ◌+◌, ◌-◌, ◌*◌, ◌<◌, ◌≤◌, refl, sym, ap, ap₂, ◌∙◌, inl, inr, List, [], ◌∷◌, length, get_or, set, take, bit_xor, arith, take_all, length-set, get_or-set_same, get_or-set_other}
use Rattle.std.proofs.lemmas.Bool.{cases_lt, cases_eq}
use Rattle.std.proofs.lemmas.List.{get_or-take}
use Rattle.std.proofs.lemmas.Simd.{length-chunk, get_or-chunk, length-put_chunk, get_or-put_chunk_below, get_or-put_chunk_at, get_or-put_chunk_above, length-zip2, get_or-zip2}
use Rattle.std.specs.Int.Bits.{xor_zero_r}
use Rattle.std.specs.Simd.Lanes.{zip2, chunk, put_chunk}
use Rattle.gf2_solve.specs.Words.{AreAdded}

none_past : (n : ℕ) (words : List ℕ) (k : ℕ) → n ≤ k → get_or (take n words) k 0 ≡ 0
none_past zero words k h = refl
none_past (suc n) [] k h = refl
none_past (suc n) (x ∷ words) zero h = absurd (omega arith)
none_past (suc n) (x ∷ words) (suc k) h = none_past n words k (omega arith)

pub added_none : (row other : List ℕ) → AreAdded row (take 0 other) row
added_none row other = record { length = refl; each = λ k. sym (xor_zero_r (get_or row k 0)) }

pub added_more : (start other row : List ℕ) (i : ℕ) → i < length row → AreAdded start (take i other) row
    → AreAdded start (take (i + 1) other) (set row i (bit_xor (get_or row i 0) (get_or other i 0)))
added_more start other row i h added = record {
  length = length-set row i _ ∙ added.length;
  each = λ k. elim (cases_eq k i) [
    | inl here ↦
        ap (λ k. get_or (set row i (bit_xor (get_or row i 0) (get_or other i 0))) k 0) here
        ∙ get_or-set_same row i _ 0 h
        ∙ ap (λ word. bit_xor word (get_or other i 0)) (added.each i ∙ ap (bit_xor (get_or start i 0)) (none_past i other i (omega arith)) ∙ xor_zero_r (get_or start i 0))
        ∙ ap (bit_xor (get_or start i 0)) (sym (get_or-take (i + 1) other i 0 (omega arith)))
        ∙ ap (λ k. bit_xor (get_or start k 0) (get_or (take (i + 1) other) k 0)) (sym here)
    | inr other_place ↦ get_or-set_other row i k _ 0 other_place ∙ added.each k ∙ ap (bit_xor (get_or start k 0)) (same k other_place)
  ];
}
  where
    same : (k : ℕ) → k ≢ i → get_or (take i other) k 0 ≡ get_or (take (i + 1) other) k 0
    same k apart = elim (cases_lt k i) [
      | inl before ↦ get_or-take i other k 0 before ∙ sym (get_or-take (i + 1) other k 0 (omega arith))
      | inr behind ↦ none_past i other k behind ∙ sym (none_past (i + 1) other k (omega arith))
    ]

-- four words from a place on
pub added_four : (start other row : List ℕ) (k : ℕ) → 4 * k + 4 ≤ length row → 4 * k + 4 ≤ length other → AreAdded start (take (4 * k) other) row
    → AreAdded start (take (4 * (k + 1)) other) (put_chunk (4 * k) row (zip2 bit_xor (chunk (4 * k) 4 row) (chunk (4 * k) 4 other)))
added_four start other row k h g added = record {
  length = length-put_chunk at row four ∙ added.length;
  each = λ i. elim (cases_lt i at) [
    | inl before ↦
        get_or-put_chunk_below at row four i 0 before
        ∙ added.each i
        ∙ ap (bit_xor (get_or start i 0)) (get_or-take at other i 0 before ∙ sym (get_or-take (4 * (k + 1)) other i 0 (omega arith)))
    | inr behind ↦ elim (cases_lt i (at + 4)) [
      | inl within ↦ four_at i (i - at) (omega arith) (omega arith)
      | inr past ↦
          get_or-put_chunk_above at row four i 0 (let n = four_long in omega arith)
          ∙ added.each i
          ∙ ap (bit_xor (get_or start i 0)) (none_past at other i (omega arith) ∙ sym (none_past (4 * (k + 1)) other i (omega arith)))
    ]
  ];
}
  where
    at : ℕ
    at = 4 * k

    four : List ℕ
    four = zip2 bit_xor (chunk at 4 row) (chunk at 4 other)

    row_long : length (chunk at 4 row) ≡ 4
    row_long = length-chunk at 4 row h

    other_long : length (chunk at 4 other) ≡ 4
    other_long = length-chunk at 4 other g

    four_long : length four ≡ 4
    four_long = length-zip2 bit_xor (chunk at 4 row) (chunk at 4 other) (row_long ∙ sym other_long) ∙ row_long

    four_at : (i j : ℕ) → j < 4 → at + j ≡ i → get_or (put_chunk at row four) i 0 ≡ bit_xor (get_or start i 0) (get_or (take (4 * (k + 1)) other) i 0)
    four_at i j low here =
        ap (λ i. get_or (put_chunk at row four) i 0) (sym here)
        ∙ get_or-put_chunk_at at row four j 0 (let n = four_long in omega arith) (let n = four_long in omega arith)
        ∙ get_or-zip2 bit_xor (chunk at 4 row) (chunk at 4 other) j 0 0 0 (let n = row_long in omega arith) (let n = other_long in omega arith)
        ∙ ap₂ bit_xor (get_or-chunk at 4 row j 0 low ∙ ap (λ i. get_or row i 0) here) (get_or-chunk at 4 other j 0 low ∙ ap (λ i. get_or other i 0) here)
        ∙ ap (λ word. bit_xor word (get_or other i 0)) (added.each i ∙ ap (bit_xor (get_or start i 0)) (none_past at other i (omega arith)) ∙ xor_zero_r (get_or start i 0))
        ∙ ap (bit_xor (get_or start i 0)) (sym (get_or-take (4 * (k + 1)) other i 0 (omega arith)))

pub added_all : (start other row : List ℕ) (k : ℕ) → length other ≤ k → AreAdded start (take k other) row → AreAdded start other row
added_all start other row k all added = record {
  length = added.length;
  each = λ i. added.each i ∙ ap (λ words. bit_xor (get_or start i 0) (get_or words i 0)) (take_all k other all);
}
