-- Bits that are put into words.
use Rattle.std.proofs.Common.{◌≡◌, ◌≢◌, ℕ, ◌+◌, ◌*◌, ◌/◌, ◌%◌, ◌<◌, ◌≤◌, refl, sym, ap, ap₂, ◌∙◌, Bool, false, eqb, List, [], ◌∷◌, ◌++◌, length, get_or, set, inl, inr, arith, ext_get_or, get_or-set_same, get_or-set_other}
use Rattle.std.proofs.lemmas.Bool.{cases_lt, cases_eq}
use Rattle.std.proofs.lemmas.List.{get_or_push, length_push, get_or_append_left}
use Rattle.gf2_solve.specs.Sums.{bit}
use Rattle.gf2_solve.specs.Words.{bit_of, bits_in}
use Rattle.std.specs.Int.{bit_at}
use Rattle.gf2_solve.proofs.WordLemmas.{length-bits_in, bit-bits_in, bits_in-more}

-- ---- one bit more

-- in a word that is there
pub put_in : (words : List ℕ) (n word : ℕ) (b : Bool) → n < 64 * length words → eqb (bit_at word (n % 64)) 1 ≡ b
    → ((i : ℕ) → i < 64 → i ≢ n % 64 → bit_at word i ≡ bit_at (get_or words (n / 64) 0) i)
    → bits_in (set words (n / 64) word) (n + 1) ≡ bits_in words n ++ b ∷ []
put_in words n word b within there others =
    bits_in-more (set words (n / 64) word) words n b before
    (ap (λ word. eqb (bit_at word (n % 64)) 1) (get_or-set_same words (n / 64) word 0 (omega arith)) ∙ there)
  where
    before : (i : ℕ) → i < n → bit_of (set words (n / 64) word) i ≡ bit_of words i
    before i h = elim (cases_eq (i / 64) (n / 64)) [
      | inl here ↦
          ap (λ k. eqb (bit_at (get_or (set words (n / 64) word) k 0) (i % 64)) 1) here
          ∙ ap (λ word. eqb (bit_at word (i % 64)) 1) (get_or-set_same words (n / 64) word 0 (omega arith))
          ∙ ap (λ d. eqb d 1) (others (i % 64) (omega arith) (omega arith))
          ∙ ap (λ k. eqb (bit_at (get_or words k 0) (i % 64)) 1) (sym here)
      | inr apart ↦ ap (λ word. eqb (bit_at word (i % 64)) 1) (get_or-set_other words (n / 64) (i / 64) word 0 apart)
    ]

-- in a word behind the others
pub put_behind : (words : List ℕ) (n word : ℕ) (b : Bool) → n ≤ 64 * length words → n / 64 ≡ length words → eqb (bit_at word 0) 1 ≡ b
    → bits_in (words ++ word ∷ []) (n + 1) ≡ bits_in words n ++ b ∷ []
put_behind words n word b within full is =
    bits_in-more (words ++ word ∷ []) words n b
    (λ i h. ap (λ word. eqb (bit_at word (i % 64)) 1) (get_or_append_left words (word ∷ []) 0 (i / 64) (omega arith)))
    (ap₂ (λ (word place : ℕ). eqb (bit_at word place) 1) (get_or_push words word 0 (n / 64) (sym full)) lowest ∙ is)
  where
    lowest : n % 64 ≡ 0
    lowest = omega arith

-- ---- the words of bits

-- the words of the first 64 * k bits
pub record AreWords (bits : List Bool) (k : ℕ) (words : List ℕ) : Type 0 where
  pub count : length words ≡ k
  pub each : (i : ℕ) → i < 64 * k → i < length bits → bit_of words i ≡ bit bits i

pub words_none : (bits : List Bool) → AreWords bits 0 []
words_none bits = record { count = refl; each = λ i h. absurd (omega arith) }

pub words_more : (bits : List Bool) (k word : ℕ) (words : List ℕ) → AreWords bits k words
    → ((i : ℕ) → i < 64 → 64 * k + i < length bits → eqb (bit_at word i) 1 ≡ bit bits (64 * k + i)) → AreWords bits (k + 1) (words ++ word ∷ [])
words_more bits k word words are is = record {
  count = length_push words word ∙ ap (λ n. n + 1) are.count;
  each = λ i h within. elim (cases_lt i (64 * k)) [
    | inl before ↦
        ap (λ word. eqb (bit_at word (i % 64)) 1) (get_or_append_left words (word ∷ []) 0 (i / 64) (let n = are.count in omega arith))
        ∙ are.each i before within
    | inr behind ↦
        let place : 64 * k + i % 64 ≡ i = omega arith in
        let last : k ≡ i / 64 = omega arith in
        ap (λ word. eqb (bit_at word (i % 64)) 1) (get_or_push words word 0 (i / 64) (are.count ∙ last))
        ∙ is (i % 64) (omega arith) (omega arith)
        ∙ ap (bit bits) place
  ];
}

pub words_all : (bits : List Bool) (k : ℕ) (words : List ℕ) → length bits ≤ 64 * k → AreWords bits k words → bits_in words (length bits) ≡ bits
words_all bits k words all are =
    ext_get_or false _ _ (length-bits_in words (length bits))
    (λ i h.
    let within : i < length bits = let n = length-bits_in words (length bits) in omega arith in
    bit-bits_in words (length bits) i within ∙ are.each i (omega arith) within)
