-- Rows, kept as the places that they add up.
use Rattle.std.proofs.Common.{◌≡◌, ℕ, zero, suc, ◌+◌, ◌<◌, ◌≤◌, nat_lt, refl, sym, ap, ◌∙◌, subst, Bool, true, false, List, [], ◌∷◌, ◌++◌, length, map, take, All, get_or, Option, None, arith}
use Rattle.std.proofs.lemmas.Bool.{ltb-true}
use Rattle.std.proofs.lemmas.List.{take_more, take_all, length-map, get_or_past}
use Rattle.gf2_solve.specs.Sums.{plus, bit}
use Rattle.gf2_solve.proofs.SumLemmas.{plus_zero, plus_assoc}
use Rattle.certificate_laws.specs.declared.line.Term.{Term}
use Rattle.certificate_laws.specs.declared.line.Term.TheVariants.{Row, Bit}
use Rattle.certificate_laws.specs.Fixed.{fixed_at, is_fixed}
use Rattle.certificate_laws.specs.Terms.{alone, added, row_at, rows_at, row_of, may_name}
use Rattle.std.proofs.lemmas.Bool.{false≢true, cases_lt}
use Rattle.std.proofs.Common.{inl, inr}
use Rattle.certificate_check.specs.Adding.{IsAdded, IsWithin}
use Rattle.certificate_check.proofs.Adding.{bit_added}

pub as_many : (rows : List (List ℕ)) → length (rows_at rows) ≡ length rows
as_many rows = length-map rows row_at

pub row_none : (row : List ℕ) (sum : List Bool) → IsAdded sum (row_at (take 0 row)) sum
row_none row sum = record { bits = λ i. sym (plus_zero (bit sum i)) }

row_push : (row : List ℕ) (place i : ℕ) → bit (row_at (row ++ place ∷ [])) i ≡ plus (bit (row_at row) i) (bit (alone place) i)
row_push [] place i = bit_added (alone place) [] i ∙ plus_zero (bit (alone place) i)
row_push (p ∷ row) place i =
    bit_added (alone p) (row_at (row ++ place ∷ [])) i
    ∙ ap (plus (bit (alone p) i)) (row_push row place i)
    ∙ sym (plus_assoc (bit (alone p) i) (bit (row_at row) i) (bit (alone place) i))
    ∙ ap (λ b. plus b (bit (alone place) i)) (sym (bit_added (alone p) (row_at row) i))

pub row_more : (row : List ℕ) (k d : ℕ) (start old new : List Bool) → k < length row → IsAdded start (row_at (take k row)) old → IsAdded old (alone (get_or row k d)) new
    → IsAdded start (row_at (take (k + 1) row)) new
row_more row k d start old new below before adds = record {
  bits = λ i.
      adds.bits i ∙ ap (λ b. plus b (bit (alone (get_or row k d)) i)) (before.bits i) ∙ plus_assoc (bit start i) (bit (row_at (take k row)) i) (bit (alone (get_or row k d)) i)
      ∙ ap (plus (bit start i)) (sym (row_push (take k row) (get_or row k d) i) ∙ ap (λ (l : List ℕ). bit (row_at l) i) (sym (take_more row k d below)));
}

pub row_whole : (row : List ℕ) (k : ℕ) (start sum : List Bool) → length row ≤ k → IsAdded start (row_at (take k row)) sum → IsAdded start (row_at row) sum
row_whole row k start sum all is = subst (λ (l : List ℕ). IsAdded start (row_at l) sum) (take_all k row all) is

pub place_within : (n : ℕ) (row : List ℕ) (k d : ℕ) → All (λ place. place < n) row → k < length row → get_or row k d < n
place_within n row k d all below = all k d below

pub row_named : (rows : List (List ℕ)) (fixed : List (Option Bool)) (k : ℕ) → may_name (rows_at rows) fixed (Row k) ≡ true → k < length rows
row_named rows fixed k named = let below = ltb-true k (length (rows_at rows)) named in omega (arith, below, as_many rows)

pub row_fits : (n : ℕ) (rows : List (List ℕ)) (k : ℕ) (d : List ℕ) → IsWithin n rows → k < length rows → All (λ place. place < n) (get_or rows k d)
row_fits n rows k d within below = within k d below

at_map : (rows : List (List ℕ)) (k : ℕ) (d : List ℕ) → k < length rows → get_or (map row_at rows) k [] ≡ row_at (get_or rows k d)
at_map [] k d below = absurd (omega (arith, below))
at_map (r ∷ rows) zero d below = refl
at_map (r ∷ rows) (suc k) d below = at_map rows k d (omega (arith, below))

pub row_is : (rows : List (List ℕ)) (k : ℕ) (row : List ℕ) → k < length rows → row ≡ get_or rows k row → row_of (rows_at rows) (Row k) ≡ row_at row
row_is rows k row below is = at_map rows k row below ∙ ap row_at (sym is)

-- a bit that may be named is there
pub bit_named : (rows : List (List Bool)) (fixed : List (Option Bool)) (place : ℕ) → may_name rows fixed (Bit place) ≡ true → place < length fixed
bit_named rows fixed place named = elim (cases_lt place (length fixed)) [
  | inl below ↦ below
  | inr past ↦ absurd (false≢true (ap is_fixed (sym (get_or_past fixed place None past)) ∙ named))
]
