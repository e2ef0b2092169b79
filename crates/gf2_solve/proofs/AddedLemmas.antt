-- Rows whose words are added.
use Rattle.std.proofs.Common.{◌≡◌, ℕ, suc, ◌/◌, ◌%◌, ◌<◌, refl, sym, ap, ap₂, ◌∙◌, subst, Bool, true, false, ◌&&◌, eqb, List, [], ◌∷◌, length, get_or, arith}
use Rattle.gf2_solve.specs.Sums.{plus, bit, sum_of, IsSumOf}
use Rattle.gf2_solve.specs.Words.{bits_in, AreAdded}
use Rattle.std.specs.Int.{bit_at}
use Rattle.gf2_solve.proofs.WordLemmas.{length-bits_in, bit-bits_in, bit_xor-bits}

-- a row whose bits are the sums of two others' bits
sums_of_bits : (left right row x : List Bool) → length left ≡ length row → length right ≡ length row
    → ((i : ℕ) → i < length row → bit row i ≡ plus (bit left i) (bit right i)) → sum_of row x ≡ plus (sum_of left x) (sum_of right x)
sums_of_bits [] [] [] x hl hr each = refl
sums_of_bits [] (r ∷ right) [] x hl hr each = absurd (omega arith)
sums_of_bits (l ∷ left) right [] x hl hr each = absurd (omega arith)
sums_of_bits [] right (a ∷ row) x hl hr each = absurd (omega arith)
sums_of_bits (l ∷ left) [] (a ∷ row) x hl hr each = absurd (omega arith)
sums_of_bits (l ∷ left) (r ∷ right) (a ∷ row) [] hl hr each = refl
sums_of_bits (l ∷ left) (r ∷ right) (a ∷ row) (b ∷ x) hl hr each =
    ap₂ (λ (a s : Bool). plus (a && b) s) (each 0 (omega arith)) (sums_of_bits left right row x (omega arith) (omega arith) (λ i h. each (suc i) (omega arith)))
    ∙ regroup l r b (sum_of left x) (sum_of right x)
  where
    regroup : (l r b s t : Bool) → plus (plus l r && b) (plus s t) ≡ plus (plus (l && b) s) (plus (r && b) t)
    regroup false false b s t = refl
    regroup false true false s t = refl
    regroup false true true false t = refl
    regroup false true true true false = refl
    regroup false true true true true = refl
    regroup true false false s t = refl
    regroup true false true false t = refl
    regroup true false true true false = refl
    regroup true false true true true = refl
    regroup true true false s t = refl
    regroup true true true false false = refl
    regroup true true true false true = refl
    regroup true true true true false = refl
    regroup true true true true true = refl

pub added_sums : (old other new : List ℕ) (n : ℕ) → AreAdded old other new → IsSumOf (bits_in old n) (bits_in other n) (bits_in new n)
added_sums old other new n added = record {
  sums = λ x. sums_of_bits (bits_in old n) (bits_in other n) (bits_in new n) x
      (length-bits_in old n ∙ sym (length-bits_in new n)) (length-bits_in other n ∙ sym (length-bits_in new n))
      (λ i h.
      let below : i < n = let long = length-bits_in new n in omega arith in
      bit-bits_in new n i below
      ∙ ap (λ word. eqb (bit_at word (i % 64)) 1) (added.each (i / 64))
      ∙ bit_xor-bits (get_or old (i / 64) 0) (get_or other (i / 64) 0) (i % 64)
      ∙ ap₂ plus (sym (bit-bits_in old n i below)) (sym (bit-bits_in other n i below)));
}

-- a row and another, each by its words
pub row_added : (old other new : List ℕ) (n : ℕ) (row right : List Bool) → bits_in old n ≡ row → bits_in other (length right) ≡ right → length right ≡ length row
    → AreAdded old other new → IsSumOf row right (bits_in new n)
row_added old other new n row right is other_is same added =
    let long : length right ≡ n = same ∙ sym (ap length is) ∙ length-bits_in old n in
    subst (λ (row : List Bool). IsSumOf row right (bits_in new n)) is
    (subst (λ (right : List Bool). IsSumOf (bits_in old n) right (bits_in new n)) (ap (bits_in other) (sym long) ∙ other_is) (added_sums old other new n added))
