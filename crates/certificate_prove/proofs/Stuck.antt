-- Where all bits that count are fixed, a row clashes by itself or a span is 0 bit by bit.
use Rattle.std.proofs.Common.{◌≡◌, ◌⊎◌, ℕ, zero, suc, ◌+◌, ◌<◌, ◌≤◌, nat_lt, refl, sym, ap, ◌∙◌, subst, inl, inr, Bool, true, false, not, ◌&&◌, List, [], ◌∷◌, All, length, map, get_or, Option, Some, None, arith}
use Rattle.std.specs.List.{list_all}
use Rattle.std.proofs.lemmas.Bool.{false≢true, cases_Bool, cases_eq, lt-ltb}
use Rattle.std.proofs.lemmas.List.{length-map, get_or_default}
use Rattle.nf_base.specs.declared.card.TableSize.{TableSize}
use Rattle.std.proofs.lemmas.List.Elements.{All-head, All-tail, All-map}
use Rattle.gf2_solve.specs.Sums.{plus, bit, sum_of}
use Rattle.gf2_solve.proofs.SumLemmas.{plus_self}
use Rattle.certificate_laws.specs.declared.line.Span.{Span}
use Rattle.certificate_laws.specs.declared.line.Term.{Term}
use Rattle.certificate_laws.specs.declared.line.Term.TheVariants.{Bit}
use Rattle.certificate_laws.specs.Fixed.{fixed_at, value_or_zero, is_fixed, HasFixed}
use Rattle.certificate_laws.specs.Terms.{added, alone, row_at, rows_at, total, value, may_name, is_zero, is_sum}
use Rattle.certificate_laws.specs.Trees.{Meets, IsRefuted}
use Rattle.certificate_laws.proofs.Adding.{sum_of-added, sum_of-alone}
use Rattle.certificate_laws.proofs.Leaves.{bit_added, bits_zero, both_true, zeros_leaf}
use Rattle.certificate_prove.specs.Growing.{AreNameable, NoRow, NoSpan, AllFixed, row_terms, no_span, is_zero_span}

values_at : (fixed : List (Option Bool)) (i : ℕ) → bit (map value_or_zero fixed) i ≡ value_or_zero (fixed_at fixed i)
values_at [] i = refl
values_at (o ∷ fixed) zero = refl
values_at (o ∷ fixed) (suc i) = values_at fixed i

-- the bits of a row, as terms
places_total : (rows : List (List Bool)) (row : List ℕ) → total rows (map (λ p. Bit p) row) ≡ row_at row
places_total rows [] = refl
places_total rows (p ∷ row) = ap (added (alone p)) (places_total rows row)

places_value : (fixed : List (Option Bool)) (row : List ℕ) → value fixed (map (λ p. Bit p) row) ≡ sum_of (row_at row) (map value_or_zero fixed)
places_value fixed [] = refl
places_value fixed (p ∷ row) =
    ap (plus (value_or_zero (fixed_at fixed p))) (places_value fixed row)
    ∙ ap (λ b. plus b (sum_of (row_at row) (map value_or_zero fixed))) (sym (sum_of-alone p (map value_or_zero fixed) ∙ values_at fixed p))
    ∙ sym (sum_of-added (alone p) (row_at row) (map value_or_zero fixed))

places_named : (rows : List (List Bool)) (fixed : List (Option Bool)) (row : List ℕ) → All (λ p. is_fixed (fixed_at fixed p) ≡ true) row → list_all (may_name rows fixed) (map (λ p. Bit p) row) ≡ true
places_named rows fixed [] all = refl
places_named rows fixed (p ∷ row) all =
    both_true (is_fixed (fixed_at fixed p)) (list_all (may_name rows fixed) (map (λ q. Bit q) row)) (All-head (λ q. is_fixed (fixed_at fixed q) ≡ true) p row all)
    (places_named rows fixed row (All-tail (λ q. is_fixed (fixed_at fixed q) ≡ true) p row all))

row_there : (rows : List (List ℕ)) (k : ℕ) → get_or (rows_at rows) k [] ≡ row_at (get_or rows k [])
row_there [] k = refl
row_there (r ∷ rows) zero = refl
row_there (r ∷ rows) (suc k) = row_there rows k

rows_long : (rows : List (List ℕ)) → length (rows_at rows) ≡ length rows
rows_long rows = length-map rows row_at

twice_none : (r : List Bool) → is_zero (added r r) ≡ true
twice_none r = bits_zero (added r r) (λ i. bit_added r r i ∙ plus_self (bit r i))

not_not : (b : Bool) → not (plus true b) ≡ false → b ≡ false
not_not true is = absurd (false≢true (sym is))
not_not false is = refl

-- a row that doesn't clash sums to 0 at the fixed values
row_sums : (rows : List (List ℕ)) (fixed : List (Option Bool)) (k : ℕ) → k < length rows → All (λ p. is_fixed (fixed_at fixed p) ≡ true) (get_or rows k [])
    → is_sum (rows_at rows) fixed (row_terms k (get_or rows k [])) [] true ≡ false → sum_of (row_at (get_or rows k [])) (map value_or_zero fixed) ≡ false
row_sums rows fixed k below all none =
    let row : List ℕ = get_or rows k [] in
    let bits : List Term = map (λ p. Bit p) row in
    let named : (nat_lt k (length (rows_at rows)) && list_all (may_name (rows_at rows) fixed) bits) ≡ true =
    both_true (nat_lt k (length (rows_at rows))) (list_all (may_name (rows_at rows) fixed) bits) (lt-ltb k (length (rows_at rows)) (let long = rows_long rows in omega (arith, below, long))) (places_named (rows_at rows) fixed row all) in
    let zero : is_zero (added (get_or (rows_at rows) k []) (total (rows_at rows) bits)) ≡ true =
    ap (λ (r : List Bool). is_zero (added r (total (rows_at rows) bits))) (row_there rows k) ∙ ap (λ (r : List Bool). is_zero (added (row_at row) r)) (places_total (rows_at rows) row) ∙ twice_none (row_at row) in
    let rest : not (plus true (value fixed bits)) ≡ false =
    sym (ap (λ b. b && (is_zero (added (get_or (rows_at rows) k []) (total (rows_at rows) bits)) && not (plus true (value fixed bits)))) named
    ∙ ap (λ b. b && not (plus true (value fixed bits))) zero) ∙ none in
    sym (places_value fixed row) ∙ not_not (value fixed bits) rest

-- a place of a span at which a vector is 1, or none
some_one : (x : List Bool) (first count : ℕ) → ((i : ℕ) → i < count → bit x (first + i) ≡ false) ⊎ ((i : ℕ) × (i < count) × (bit x (first + i) ≡ true))
some_one x first zero = inl (λ i below. absurd (omega (arith, below)))
some_one x first (suc count) = elim (some_one x first count) [
  | inr found ↦ inr (found.0, omega (arith, found.1), found.2)
  | inl none ↦ elim (cases_Bool (bit x (first + count))) [
    | inl one ↦ inr (count, omega arith, one)
    | inr nil ↦ inl (λ i below. elim (cases_eq i count) [
      | inl same ↦ ap (λ j. bit x (first + j)) same ∙ nil
      | inr other ↦ none i (omega (arith, below, other))
    ])
  ]
]

known : (o : Option Bool) → is_fixed o ≡ true → o ≡ Some (value_or_zero o)
known None is = absurd (false≢true is)
known (Some b) is = refl

span_meets : (rows : List (List ℕ)) (fixed : List (Option Bool)) (span : Span) → ((i : ℕ) → i < span.count → is_fixed (fixed_at fixed (span.first + i)) ≡ true) → is_zero_span rows fixed span ≡ false
    → Meets (map value_or_zero fixed) span
span_meets rows fixed span all none = elim (some_one (map value_or_zero fixed) span.first span.count) [
  | inr found ↦ record { offset = found.0; within = found.1; one = found.2 }
  | inl nils ↦
      absurd (false≢true (sym none ∙ zeros_leaf (rows_at rows) fixed span.count span.first
      (λ i below. known (fixed_at fixed (span.first + i)) (all i below) ∙ ap Some (sym (values_at fixed (span.first + i)) ∙ nils i below))))
]

values_fixed : (fixed : List (Option Bool)) → HasFixed fixed (map value_or_zero fixed)
values_fixed fixed = record {
  long = length-map fixed value_or_zero;
  bits = λ i b there. values_at fixed i ∙ ap value_or_zero there;
}

pub stuck : (table : TableSize) (positions : List ℕ) (rows : List (List ℕ)) (spans : List Span) (fixed : List (Option Bool)) → AreNameable table positions (length fixed) rows spans → IsRefuted (rows_at rows) spans fixed
    → NoRow rows fixed (length rows) → NoSpan rows spans fixed (length spans) → AllFixed positions fixed (length fixed) → ⊥
stuck table positions rows spans fixed nameable refuted no_row no_span_there all =
    refuted.none (map value_or_zero fixed)
    (record {
      sums = All-map (λ (row : List Bool). sum_of row (map value_or_zero fixed) ≡ false) row_at rows
          (λ k d below. subst (λ (row : List ℕ). sum_of (row_at row) (map value_or_zero fixed) ≡ false) (get_or_default rows k [] d below)
          (row_sums rows fixed k below (λ i e low. all.each (get_or (get_or rows k []) i e) (nameable.each_row k [] below i e low) (nameable.counted k [] below i e low)) (no_row.none k below)));
      met = λ k d below. subst (Meets (map value_or_zero fixed)) (get_or_default spans k no_span d below)
          (span_meets rows fixed (get_or spans k no_span)
          (λ i low. (let fits = nameable.each_span k no_span below in let counted = nameable.spread k no_span below in all.each ((get_or spans k no_span).first + i) (omega (arith, fits, low)) (counted.each i low))) (no_span_there.none k below));
    })
    (values_fixed fixed)
