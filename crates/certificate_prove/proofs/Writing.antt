-- Leaves that are written.
use Rattle.std.proofs.Common.{◌≡◌, ℕ, zero, suc, ◌+◌, ◌-◌, ◌<◌, ◌≤◌, ◌==◌, ◌^◌, refl, sym, ap, ◌∙◌, subst, inl, inr, Bool, true, false, ◌&&◌, List, [], ◌∷◌, ◌++◌, All, length, take, map, Option, get_or, arith}
use Rattle.std.proofs.lemmas.Bool.{cases_eq, eq-eqb}
use Rattle.std.proofs.lemmas.List.{append_assoc, append-nil, take_more, take_all, get_or_default}
use Rattle.std.proofs.lemmas.List.Elements.{All-nil, All-cons, All-map}
use Rattle.std.proofs.lemmas.List.Folds.{list_any_at}
use Rattle.nf_base.specs.declared.card.TableSize.{TableSize}
use Rattle.certificate_laws.specs.declared.line.Term.{Term}
use Rattle.certificate_laws.specs.declared.line.Term.TheVariants.{Row, Bit}
use Rattle.certificate_laws.specs.declared.line.Line.{Line}
use Rattle.certificate_laws.specs.declared.line.Line.TheVariants as line
use Rattle.certificate_laws.specs.declared.line.Span.{Span}
use Rattle.certificate_laws.specs.Terms.{alone, rows_at, is_sum}
use Rattle.certificate_laws.specs.Trees.{Clash, Zero, are_zero, same_span, is_span}
use Rattle.certificate_laws.specs.Due.{sum_lines}
use Rattle.certificate_laws.specs.Leaves.{zero_sums}
use Rattle.certificate_laws.proofs.Lines.{trees_are_taken}
use Rattle.certificate_laws.proofs.Leaves.{both_true}
use Rattle.certificate_write.specs.Sayable.{IsPlace, IsTerm, IsSayable}
use Rattle.certificate_prove.specs.Growing.{AreNameable, IsSpanCounted, Writes, NoRow, NoSpan, row_terms, no_span, is_zero_span}

-- ---- rows

pub terms_none : (k : ℕ) (row : List ℕ) → [] ++ Row k ∷ [] ≡ row_terms k (take 0 row)
terms_none k row = refl

map_push : (xs : List ℕ) (x : ℕ) → map (λ p. Bit p) (xs ++ x ∷ []) ≡ map (λ p. Bit p) xs ++ Bit x ∷ []
map_push [] x = refl
map_push (y ∷ xs) x = ap (λ l. Bit y ∷ l) (map_push xs x)

pub terms_more : (k : ℕ) (row : List ℕ) (i place d : ℕ) (terms : List Term) → i < length row → place ≡ get_or row i d → terms ≡ row_terms k (take i row) → terms ++ Bit place ∷ [] ≡ row_terms k (take (i + 1) row)
terms_more k row i place d terms below here is =
    ap (λ l. l ++ Bit place ∷ []) is
    ∙ ap (λ l. Row k ∷ l) (sym (map_push (take i row) place)
    ∙ ap (λ (l : List ℕ). map (λ p. Bit p) l) (ap (λ p. take i row ++ p ∷ []) here ∙ sym (take_more row i d below)))

pub terms_all : (k : ℕ) (row : List ℕ) (i : ℕ) (terms : List Term) → length row ≤ i → terms ≡ row_terms k (take i row) → terms ≡ row_terms k row
terms_all k row i terms all is = is ∙ ap (λ (l : List ℕ). row_terms k l) (take_all i row all)

row_sayable : (table : TableSize) (positions : List ℕ) (k : ℕ) (row : List ℕ) → k < 2 ^ 32 → All (IsPlace positions) row → All (IsTerm positions) (row_terms k row)
row_sayable table positions k row small counted =
    All-cons (IsTerm positions) (Row k) (map (λ p. Bit p) row) small (All-map (IsTerm positions) (λ p. Bit p) row counted)

pub clash_written : (table : TableSize) (positions : List ℕ) (n : ℕ) (rows : List (List ℕ)) (spans : List Span) (fixed : List (Option Bool)) (k : ℕ) (row d : List ℕ) (old new : List Line) → AreNameable table positions n rows spans → k < length rows
    → row ≡ get_or rows k d → is_sum (rows_at rows) fixed (row_terms k row) [] true ≡ true → new ≡ (old ++ line.Clash ∷ []) ++ line.Sum (row_terms k row) ∷ [] → Writes table positions rows spans fixed old new
clash_written table positions n rows spans fixed k row d old new nameable below here is behind = record {
  lines = line.Clash ∷ line.Sum (row_terms k row) ∷ [];
  behind = behind ∙ append_assoc old (line.Clash ∷ []) (line.Sum (row_terms k row) ∷ []);
  right = record { taken = λ due. trees_are_taken (rows_at rows) spans fixed (Clash (row_terms k row)) due is };
  sayable = All-cons (IsSayable table positions) line.Clash (line.Sum (row_terms k row) ∷ []) tt
      (All-cons (IsSayable table positions) (line.Sum (row_terms k row)) []
      (row_sayable table positions k row (let few = nameable.count in omega (arith, below, few)) (subst (λ (r : List ℕ). All (IsPlace positions) r) (sym here) (nameable.counted k d below))) (All-nil (IsSayable table positions)));
}

pub no_row_none : (rows : List (List ℕ)) (fixed : List (Option Bool)) → NoRow rows fixed 0
no_row_none rows fixed = record { none = λ k below. absurd (omega (arith, below)) }

pub no_row_more : (rows : List (List ℕ)) (fixed : List (Option Bool)) (k : ℕ) (row d : List ℕ) → k < length rows → row ≡ get_or rows k d → NoRow rows fixed k → is_sum (rows_at rows) fixed (row_terms k row) [] true ≡ false → NoRow rows fixed (k + 1)
no_row_more rows fixed k row d inside here before not = record {
  none = λ j below. elim (cases_eq j k) [
    | inl same ↦
        ap (λ n. is_sum (rows_at rows) fixed (row_terms n (get_or rows n [])) [] true) same
        ∙ ap (λ (r : List ℕ). is_sum (rows_at rows) fixed (row_terms k r) [] true) (get_or_default rows k [] d inside ∙ sym here) ∙ not
    | inr other ↦ before.none j (omega (arith, below, other))
  ];
}

pub no_row_all : (rows : List (List ℕ)) (fixed : List (Option Bool)) (k : ℕ) → length rows ≤ k → NoRow rows fixed k → NoRow rows fixed (length rows)
no_row_all rows fixed k all before = record { none = λ j below. before.none j (omega (arith, below, all)) }

-- ---- spans

-- the zeros of a span, from its i-th place on
pub record AreZeroTo (rows : List (List ℕ)) (fixed : List (Option Bool)) (count first i : ℕ) : Type 0 where
  pub same : are_zero (rows_at rows) fixed count first (zero_sums count first) ≡ are_zero (rows_at rows) fixed (count - i) (first + i) (zero_sums (count - i) (first + i))

pub zero_none : (rows : List (List ℕ)) (fixed : List (Option Bool)) (count first : ℕ) → AreZeroTo rows fixed count first 0
zero_none rows fixed count first = record {
  same = let c : count ≡ count - 0 = omega arith in let f : first ≡ first + 0 = omega arith in ap (λ n. are_zero (rows_at rows) fixed n first (zero_sums n first)) c ∙ ap (λ m. are_zero (rows_at rows) fixed (count - 0) m (zero_sums (count - 0) m)) f;
}

one_zero : (rows : List (List ℕ)) (fixed : List (Option Bool)) (count first i : ℕ) → i < count → AreZeroTo rows fixed count first i
    → are_zero (rows_at rows) fixed count first (zero_sums count first) ≡ (is_sum (rows_at rows) fixed (Bit (first + i) ∷ []) (alone (first + i)) false && are_zero (rows_at rows) fixed (count - (i + 1)) (first + (i + 1)) (zero_sums (count - (i + 1)) (first + (i + 1))))
one_zero rows fixed count first i below before =
    let c : count - i ≡ suc (count - (i + 1)) = omega (arith, below) in
    let f : suc (first + i) ≡ first + (i + 1) = omega arith in
    before.same ∙ ap (λ n. are_zero (rows_at rows) fixed n (first + i) (zero_sums n (first + i))) c
    ∙ ap (λ m. is_sum (rows_at rows) fixed (Bit (first + i) ∷ []) (alone (first + i)) false && are_zero (rows_at rows) fixed (count - (i + 1)) m (zero_sums (count - (i + 1)) m)) f

pub zero_more : (rows : List (List ℕ)) (fixed : List (Option Bool)) (count first i : ℕ) → i < count → AreZeroTo rows fixed count first i → is_sum (rows_at rows) fixed (Bit (first + i) ∷ []) (alone (first + i)) false ≡ true
    → AreZeroTo rows fixed count first (i + 1)
zero_more rows fixed count first i below before is = record {
  same = one_zero rows fixed count first i below before ∙ ap (λ b. b && are_zero (rows_at rows) fixed (count - (i + 1)) (first + (i + 1)) (zero_sums (count - (i + 1)) (first + (i + 1)))) is;
}

pub zero_fails : (rows : List (List ℕ)) (fixed : List (Option Bool)) (count first i : ℕ) → i < count → AreZeroTo rows fixed count first i → is_sum (rows_at rows) fixed (Bit (first + i) ∷ []) (alone (first + i)) false ≡ false
    → false ≡ are_zero (rows_at rows) fixed count first (zero_sums count first)
zero_fails rows fixed count first i below before is =
    sym (one_zero rows fixed count first i below before ∙ ap (λ b. b && are_zero (rows_at rows) fixed (count - (i + 1)) (first + (i + 1)) (zero_sums (count - (i + 1)) (first + (i + 1)))) is)

pub zero_all : (rows : List (List ℕ)) (fixed : List (Option Bool)) (count first i : ℕ) → i ≡ count → AreZeroTo rows fixed count first i → true ≡ are_zero (rows_at rows) fixed count first (zero_sums count first)
zero_all rows fixed count first i all before =
    let none : count - i ≡ 0 = omega (arith, all) in
    sym (before.same ∙ ap (λ n. are_zero (rows_at rows) fixed n (first + i) (zero_sums n (first + i))) none)

sums_push : (count first : ℕ) → sum_lines (zero_sums (suc count) first) ≡ sum_lines (zero_sums count first) ++ line.Sum (Bit (first + count) ∷ []) ∷ []
sums_push zero first = let same : first ≡ first + 0 = omega arith in ap (λ n. line.Sum (Bit n ∷ []) ∷ []) same
sums_push (suc count) first =
    let same : suc first + count ≡ first + suc count = omega arith in
    ap (λ l. line.Sum (Bit first ∷ []) ∷ l) (sums_push count (suc first) ∙ ap (λ n. sum_lines (zero_sums count (suc first)) ++ line.Sum (Bit n ∷ []) ∷ []) same)

pub sums_none : (old : List Line) (first : ℕ) → old ≡ old ++ sum_lines (zero_sums 0 first)
sums_none old first = sym (append-nil old)

pub sums_more : (old out : List Line) (first i : ℕ) → out ≡ old ++ sum_lines (zero_sums i first) → out ++ line.Sum (Bit (first + i) ∷ []) ∷ [] ≡ old ++ sum_lines (zero_sums (i + 1) first)
sums_more old out first i is =
    let next : suc i ≡ i + 1 = omega arith in
    ap (λ l. l ++ line.Sum (Bit (first + i) ∷ []) ∷ []) is ∙ append_assoc old (sum_lines (zero_sums i first)) (line.Sum (Bit (first + i) ∷ []) ∷ []) ∙ ap (λ l. old ++ l) (sym (sums_push i first) ∙ ap (λ n. sum_lines (zero_sums n first)) next)

sums_sayable : (table : TableSize) (positions : List ℕ) (count first : ℕ) → ((i : ℕ) → i < count → IsPlace positions (first + i)) → All (IsSayable table positions) (sum_lines (zero_sums count first))
sums_sayable table positions zero first each = All-nil (IsSayable table positions)
sums_sayable table positions (suc count) first each =
    let here : first + 0 ≡ first = omega arith in
    All-cons (IsSayable table positions) (line.Sum (Bit first ∷ [])) (sum_lines (zero_sums count (suc first)))
    (All-cons (IsTerm positions) (Bit first) [] (subst (IsPlace positions) here (each 0 (omega arith))) (All-nil (IsTerm positions)))
    (sums_sayable table positions count (suc first) (λ i below. let same : first + suc i ≡ suc first + i = omega arith in subst (IsPlace positions) same (each (suc i) (omega (arith, below)))))

own_span : (spans : List Span) (s : ℕ) → s < length spans → is_span spans (get_or spans s no_span) ≡ true
own_span spans s below =
    let one : Span = get_or spans s no_span in
    list_any_at (same_span one) spans s no_span below (both_true (one.first == one.first) (one.count == one.count) (eq-eqb one.first one.first refl) (eq-eqb one.count one.count refl))

pub zero_written : (table : TableSize) (positions : List ℕ) (n : ℕ) (rows : List (List ℕ)) (spans : List Span) (fixed : List (Option Bool)) (s : ℕ) (span d : Span) (old new : List Line) → AreNameable table positions n rows spans → s < length spans
    → span ≡ get_or spans s d → is_zero_span rows fixed span ≡ true → new ≡ (old ++ line.Zero span ∷ []) ++ sum_lines (zero_sums span.count span.first) → Writes table positions rows spans fixed old new
zero_written table positions n rows spans fixed s span d old new nameable below here zeros behind = let same : span ≡ get_or spans s no_span = here ∙ get_or_default spans s d no_span below in record {
  lines = line.Zero span ∷ sum_lines (zero_sums span.count span.first);
  behind = behind ∙ append_assoc old (line.Zero span ∷ []) (sum_lines (zero_sums span.count span.first));
  right = record {
    taken = λ due. trees_are_taken (rows_at rows) spans fixed (Zero span (zero_sums span.count span.first)) due
        (both_true (is_span spans span) (is_zero_span rows fixed span) (ap (is_span spans) same ∙ own_span spans s below) zeros);
  };
  sayable = All-cons (IsSayable table positions) (line.Zero span) (sum_lines (zero_sums span.count span.first))
      (subst (λ (t : Span). IsSayable table positions (line.Zero t)) (sym same) (nameable.here s no_span below))
      (sums_sayable table positions span.count span.first (λ i low. (let spread : IsSpanCounted positions span = subst (IsSpanCounted positions) (sym same) (nameable.spread s no_span below) in spread.each i low)));
}

pub no_span_none : (rows : List (List ℕ)) (spans : List Span) (fixed : List (Option Bool)) → NoSpan rows spans fixed 0
no_span_none rows spans fixed = record { none = λ k below. absurd (omega (arith, below)) }

pub no_span_more : (rows : List (List ℕ)) (spans : List Span) (fixed : List (Option Bool)) (s : ℕ) (span d : Span) → s < length spans → span ≡ get_or spans s d → NoSpan rows spans fixed s → is_zero_span rows fixed span ≡ false → NoSpan rows spans fixed (s + 1)
no_span_more rows spans fixed s span d inside here before not = record {
  none = λ j below. elim (cases_eq j s) [
    | inl same ↦
        ap (λ n. is_zero_span rows fixed (get_or spans n no_span)) same
        ∙ ap (is_zero_span rows fixed) (get_or_default spans s no_span d inside ∙ sym here) ∙ not
    | inr other ↦ before.none j (omega (arith, below, other))
  ];
}

pub no_span_all : (rows : List (List ℕ)) (spans : List Span) (fixed : List (Option Bool)) (s : ℕ) → length spans ≤ s → NoSpan rows spans fixed s → NoSpan rows spans fixed (length spans)
no_span_all rows spans fixed s all before = record { none = λ j below. before.none j (omega (arith, below, all)) }
