-- Sums, bit by bit.
use Rattle.std.proofs.Common.{◌≡◌, ◌≢◌, ℕ, zero, suc, ◌+◌, ◌<◌, ◌≤◌, refl, sym, ap, ◌∙◌, inl, inr, ◌⊎◌, ◌-◌, Bool, true, false, not, ◌&&◌, List, [], ◌∷◌, ◌++◌, length, take, set, replicate, Option, None, Some, get_or, arith}
use Rattle.std.specs.List.{list_all}
use Rattle.std.proofs.lemmas.Bool.{cases_eq, cases_lt, cases_Bool, false≢true, and_parts}
use Rattle.std.proofs.lemmas.List.{take_more, get_or-take, get_or-set_other, get_or_past, length-take-le, get_or_append_left, get_or-append_right, length-replicate, get_or-replicate, length-append}
use Rattle.std.proofs.lemmas.Grind.{get_or-set_at}
use Rattle.gf2_solve.specs.Sums.{plus, bit}
use Rattle.gf2_solve.proofs.SumLemmas.{plus_zero, plus_assoc}
use Rattle.certificate_laws.specs.declared.line.Term.{Term}
use Rattle.certificate_laws.specs.Terms as terms
use Rattle.certificate_laws.specs.Terms.{alone, added, row_of, total, value_of, value, may_name, is_zero}
use Rattle.certificate_check.specs.Adding.{IsAdded, IsSame, wanted_row, IsWithin}

value_push : (fixed : List (Option Bool)) (ts : List Term) (t : Term) → value fixed (ts ++ t ∷ []) ≡ plus (value fixed ts) (value_of fixed t)
value_push fixed [] t = plus_zero (value_of fixed t)
value_push fixed (u ∷ ts) t = ap (plus (value_of fixed u)) (value_push fixed ts t) ∙ sym (plus_assoc (value_of fixed u) (value fixed ts) (value_of fixed t))

pub value_more : (fixed : List (Option Bool)) (ts : List Term) (i : ℕ) (d : Term) (s : Bool) → i < length ts → s ≡ value fixed (take i ts) → plus s (value_of fixed (get_or ts i d)) ≡ value fixed (take (i + 1) ts)
value_more fixed ts i d s below is =
    ap (λ b. plus b (value_of fixed (get_or ts i d))) is ∙ sym (ap (value fixed) (take_more ts i d below) ∙ value_push fixed (take i ts) (get_or ts i d))

flipped_bit : (b : Bool) → not b ≡ plus b true
flipped_bit true = refl
flipped_bit false = refl

bit_alone : (place i : ℕ) → i ≡ place → bit (alone place) i ≡ true
bit_alone place i same = get_or-append_right (replicate place false) (true ∷ []) place i false (length-replicate {A = Bool} place false) (omega (arith, same)) ∙ ap (λ j. get_or (true ∷ []) j false) (let none : i - place ≡ 0 = omega (arith, same) in none)

bit_beside : (place i : ℕ) → i ≢ place → bit (alone place) i ≡ false
bit_beside place i other = elim (cases_lt i place) [
  | inl before ↦ get_or_append_left (replicate place false) (true ∷ []) false i (omega (arith, before, length-replicate {A = Bool} place false)) ∙ get_or-replicate place i false false before
  | inr behind ↦ get_or_past (alone place) i false (omega (arith, behind, other, length-append (replicate place false) (true ∷ []), length-replicate {A = Bool} place false))
]

pub added_alone : (sum : List Bool) (place : ℕ) (b : Bool) → place < length sum → b ≡ bit sum place → IsAdded sum (alone place) (set sum place (not b))
added_alone sum place b within is = record {
  bits = λ i. elim (cases_eq i place) [
    | inl same ↦
        get_or-set_at sum place i (not b) false same within ∙ flipped_bit b ∙ ap (λ c. plus c true) (is ∙ ap (bit sum) (sym same))
        ∙ ap (plus (bit sum i)) (sym (bit_alone place i same))
    | inr other ↦ get_or-set_other sum place i (not b) false other ∙ sym (plus_zero (bit sum i)) ∙ ap (plus (bit sum i)) (sym (bit_beside place i other))
  ];
}

-- sums of rows, bit by bit
pub bit_added : (r s : List Bool) (i : ℕ) → bit (added r s) i ≡ plus (bit r i) (bit s i)
bit_added [] s i = refl
bit_added (a ∷ r) [] i = sym (plus_zero (bit (a ∷ r) i))
bit_added (a ∷ r) (b ∷ s) zero = refl
bit_added (a ∷ r) (b ∷ s) (suc i) = bit_added r s i

total_push : (rows : List (List Bool)) (ts : List Term) (t : Term) (i : ℕ) → bit (total rows (ts ++ t ∷ [])) i ≡ plus (bit (total rows ts) i) (bit (row_of rows t) i)
total_push rows [] t i = bit_added (row_of rows t) [] i ∙ plus_zero (bit (row_of rows t) i)
total_push rows (u ∷ ts) t i =
    bit_added (row_of rows u) (total rows (ts ++ t ∷ [])) i ∙ ap (plus (bit (row_of rows u) i)) (total_push rows ts t i)
    ∙ sym (plus_assoc (bit (row_of rows u) i) (bit (total rows ts) i) (bit (row_of rows t) i))
    ∙ ap (λ b. plus b (bit (row_of rows t) i)) (sym (bit_added (row_of rows u) (total rows ts) i))

pub total_none : (rows : List (List Bool)) (ts : List Term) (sum : List Bool) → IsAdded sum (total rows (take 0 ts)) sum
total_none rows ts sum = record { bits = λ i. sym (plus_zero (bit sum i)) }

pub total_more : (rows : List (List Bool)) (ts : List Term) (k : ℕ) (d : Term) (start old new : List Bool) → k < length ts → IsAdded start (total rows (take k ts)) old → IsAdded old (row_of rows (get_or ts k d)) new
    → IsAdded start (total rows (take (k + 1) ts)) new
total_more rows ts k d start old new below before adds = record {
  bits = λ i.
      let t : Term = get_or ts k d in
      adds.bits i ∙ ap (λ b. plus b (bit (row_of rows t) i)) (before.bits i) ∙ plus_assoc (bit start i) (bit (total rows (take k ts)) i) (bit (row_of rows t) i)
      ∙ ap (plus (bit start i)) (sym (total_push rows (take k ts) t i) ∙ ap (λ (l : List Term). bit (total rows l) i) (sym (take_more ts k d below)));
}

pub named_at : (rows : List (List Bool)) (fixed : List (Option Bool)) (ts : List Term) (k : ℕ) (d : Term) → list_all (may_name rows fixed) ts ≡ true → k < length ts → may_name rows fixed (get_or ts k d) ≡ true
named_at rows fixed [] k d all below = absurd (omega (arith, below))
named_at rows fixed (t ∷ ts) zero d all below = (and_parts (may_name rows fixed t) (list_all (may_name rows fixed) ts) all).0
named_at rows fixed (t ∷ ts) (suc k) d all below = named_at rows fixed ts k d (and_parts (may_name rows fixed t) (list_all (may_name rows fixed) ts) all).1 (omega (arith, below))

-- what a sum is to be
zeros_at : (n i : ℕ) → bit (replicate n false) i ≡ false
zeros_at zero i = refl
zeros_at (suc n) zero = refl
zeros_at (suc n) (suc i) = zeros_at n i

pub wanted_none : (n : ℕ) → IsSame (wanted_row None) (replicate n false)
wanted_none n = record { bits = λ i. zeros_at n i }

pub wanted_one : (n place : ℕ) (row : List Bool) → IsAdded (replicate n false) (alone place) row → IsSame (wanted_row (Some place)) row
wanted_one n place row is = record { bits = λ i. is.bits i ∙ ap (λ b. plus b (bit (alone place) i)) (zeros_at n i) }

-- whether a row has no 1, by its bits
zero_bits : (r : List Bool) → is_zero r ≡ true → (i : ℕ) → bit r i ≡ false
zero_bits [] is i = refl
zero_bits (true ∷ r) is i = absurd (false≢true is)
zero_bits (false ∷ r) is zero = refl
zero_bits (false ∷ r) is (suc i) = zero_bits r is i

bits_zero : (r : List Bool) → ((i : ℕ) → bit r i ≡ false) → is_zero r ≡ true
bits_zero [] all = refl
bits_zero (true ∷ r) all = absurd (false≢true (sym (all 0)))
bits_zero (false ∷ r) all = bits_zero r (λ i. all (suc i))

zero_alike : (r s : List Bool) → ((i : ℕ) → bit r i ≡ bit s i) → is_zero r ≡ is_zero s
zero_alike r s same = elim (cases_Bool (is_zero r)) [
  | inl good ↦ good ∙ sym (bits_zero s (λ i. sym (same i) ∙ zero_bits r good i))
  | inr bad ↦ elim (cases_Bool (is_zero s)) [
    | inl good ↦ absurd (false≢true (sym bad ∙ bits_zero r (λ i. same i ∙ zero_bits s good i)))
    | inr neither ↦ bad ∙ sym neither
  ]
]

same_value : (a b : Bool) → (a ≡ b) ⊎ (a ≢ b)
same_value false false = inl refl
same_value true true = inl refl
same_value false true = inr (λ h. false≢true h)
same_value true false = inr (λ h. false≢true (sym h))

pub sum_zero : (rows : List (List Bool)) (ts : List Term) (row start sum : List Bool) → IsSame row start → IsAdded start (total rows ts) sum → is_zero sum ≡ is_zero (added row (total rows ts))
sum_zero rows ts row start sum same adds =
    zero_alike sum (added row (total rows ts)) (λ i. adds.bits i ∙ ap (λ b. plus b (bit (total rows ts) i)) (same.bits i) ∙ sym (bit_added row (total rows ts) i))

pub not_named : (rows : List (List Bool)) (fixed : List (Option Bool)) (ts : List Term) (row : List Bool) (one : Bool) → list_all (may_name rows fixed) ts ≡ false → terms.is_sum rows fixed ts row one ≡ false
not_named rows fixed ts row one is = ap (λ b. b && (is_zero (added row (total rows ts)) && not (plus one (value fixed ts)))) is

pub sum_decided : (rows : List (List Bool)) (fixed : List (Option Bool)) (ts : List Term) (row start sum : List Bool) (one v z : Bool) → list_all (may_name rows fixed) ts ≡ true → IsSame row start → IsAdded start (total rows ts) sum
    → z ≡ is_zero sum → v ≡ value fixed ts → (z && not (plus one v)) ≡ terms.is_sum rows fixed ts row one
sum_decided rows fixed ts row start sum one v z named same adds none is =
    ap (λ b. b && not (plus one v)) (none ∙ sum_zero rows ts row start sum same adds)
    ∙ ap (λ b. is_zero (added row (total rows ts)) && not (plus one b)) is
    ∙ sym (ap (λ b. b && (is_zero (added row (total rows ts)) && not (plus one (value fixed ts)))) named)
