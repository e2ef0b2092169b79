-- Trees for what is refuted.
use Rattle.std.proofs.lemmas.List.Folds.{list_any_at}
use Rattle.std.proofs.Common.{◌≡◌, ◌⊎◌, ℕ, zero, suc, ◌+◌, ◌<◌, ◌≤◌, ◌==◌, ◌||◌, ◌&&◌, nat_lt, refl, sym, ap, ◌∙◌, inl, inr, Bool, true, false, List, [], ◌∷◌, length, map, All, Option, Some, None, get_or, arith}
use Rattle.std.proofs.lemmas.Bool.{false≢true, cases_Bool, cases_eq, cases_lt, eq-eqb, lt-ltb}
use Rattle.std.proofs.lemmas.List.{length-map, get_or-set_other, get_or_past, length-set}
use Rattle.std.proofs.lemmas.List.Elements.{All-nil, All-cons}
use Rattle.std.proofs.lemmas.Grind.{get_or-set_at}
use Rattle.std.proofs.lemmas.Option.{none-some, same_Some}
use Rattle.gf2_solve.specs.Sums.{bit, sum_of}
use Rattle.certificate_laws.specs.declared.line.Span.{Span}
use Rattle.certificate_laws.specs.declared.line.Term.TheVariants.{Row}
use Rattle.certificate_laws.specs.Fixed.{fixed_at, with_bit, value_or_zero, is_fixed, HasFixed}
use Rattle.certificate_laws.specs.Terms.{is_sum}
use Rattle.certificate_laws.specs.Leaves.{ones, zero_sums}
use Rattle.certificate_laws.specs.Trees.{Split, Clash, Zero, zeros_of, same_span, is_span, checks, Meets, IsRefuted}
use Rattle.certificate_laws.specs.Complete.{HasTree, RefutedHasTree}
use Rattle.certificate_laws.proofs.Refuting.{of_span}
use Rattle.certificate_laws.proofs.Leaves.{AreHere, both_true, row_leaf, zeros_leaf}

-- a row that a vector does not solve, or none
Unsolved : List (List Bool) → List Bool → Type 0
Unsolved rows x = (k : ℕ) × (k < length rows) × (sum_of (get_or rows k []) x ≡ true)

bad_row : (rows : List (List Bool)) (x : List Bool) → (All (λ row. sum_of row x ≡ false) rows) ⊎ Unsolved rows x
unfolding Unsolved
bad_row [] x = inl (All-nil (λ row. sum_of row x ≡ false))
bad_row (r ∷ rows) x = elim (cases_Bool (sum_of r x)) [
  | inl one ↦ inr (0, omega arith, one)
  | inr none ↦ elim (bad_row rows x) [
    | inl all ↦ inl (All-cons (λ row. sum_of row x ≡ false) r rows none all)
    | inr bad ↦ inr (suc bad.0, omega (arith, bad.1), bad.2)
  ]
]

-- a place of a span at which a vector is 1, or none
some_one : (x : List Bool) (first count : ℕ) → ((i : ℕ) → i < count → bit x (first + i) ≡ false) ⊎ ((i : ℕ) × (i < count) × (bit x (first + i) ≡ true))
some_one x first zero = inl (λ i below. absurd (omega (arith, below)))
some_one x first (suc count) = elim (some_one x first count) [
  | inr found ↦ inr (found.0, omega (arith, found.1), found.2)
  | inl none ↦ elim (cases_Bool (bit x (first + count))) [
    | inl one ↦ inr (count, omega arith, one)
    | inr nil ↦ inl (λ i below. elim (cases_eq i count) [
      | inl same ↦ ap (λ j. bit x (first + j)) same ∙ nil
      | inr other ↦ none i (omega (arith, below, other))
    ])
  ]
]

-- a span that a vector misses, or none
Missed : List Span → List Bool → Type 0
Missed spans x = (s : Span) × (is_span spans s ≡ true) × ((i : ℕ) → i < s.count → bit x (s.first + i) ≡ false)

own_span : (s : Span) → same_span s s ≡ true
own_span s = both_true (s.first == s.first) (s.count == s.count) (eq-eqb s.first s.first refl) (eq-eqb s.count s.count refl)

first_span : (s : Span) (spans : List Span) → is_span (s ∷ spans) s ≡ true
first_span s spans = list_any_at (same_span s) (s ∷ spans) 0 s (omega arith) (own_span s)

later_span : (s other : Span) (spans : List Span) → is_span spans other ≡ true → is_span (s ∷ spans) other ≡ true
later_span s other spans is = elim (cases_Bool (same_span other s)) [
  | inl here ↦ ap (λ b. b || is_span spans other) here
  | inr past ↦ ap (λ b. b || is_span spans other) past ∙ is
]

bad_span : (spans : List Span) (x : List Bool) → (All (Meets x) spans) ⊎ Missed spans x
unfolding Missed
bad_span [] x = inl (All-nil (Meets x))
bad_span (s ∷ spans) x = elim (some_one x s.first s.count) [
  | inl none ↦ inr (s, first_span s spans, none)
  | inr found ↦ elim (bad_span spans x) [
    | inl all ↦ inl (All-cons (Meets x) s spans (record { offset = found.0; within = found.1; one = found.2 }) all)
    | inr bad ↦ inr (bad.0, later_span s bad.0 spans bad.1, bad.2)
  ]
]

values : List (Option Bool) → List Bool
values fixed = map value_or_zero fixed

values_at : (fixed : List (Option Bool)) (i : ℕ) → bit (map value_or_zero fixed) i ≡ value_or_zero (fixed_at fixed i)
values_at [] i = refl
values_at (o ∷ fixed) zero = refl
values_at (o ∷ fixed) (suc i) = values_at fixed i

known : (o : Option Bool) → is_fixed o ≡ true → o ≡ Some (value_or_zero o)
known None is = absurd (false≢true is)
known (Some b) is = refl

-- from a place on all bits are fixed
pub record AreFixedFrom (k : ℕ) (fixed : List (Option Bool)) : Type 0 where
  pub each : (i : ℕ) → k ≤ i → i < length fixed → is_fixed (fixed_at fixed i) ≡ true

module _ (rows : List (List Bool)) (spans : List Span) (fixed : List (Option Bool)) (short : All (λ row. length row ≤ length fixed) rows) (within : All (λ (s : Span). s.first + s.count ≤ length fixed) spans)
    (all : AreFixedFrom 0 fixed) (refuted : IsRefuted rows spans fixed) where
  abbrev x : List Bool
  x = map value_or_zero fixed

  long : length x ≡ length fixed
  long = length-map fixed value_or_zero

  at : (i : ℕ) → i < length fixed → fixed_at fixed i ≡ Some (bit x i)
  at i below = known (fixed_at fixed i) (all.each i (omega arith) below) ∙ ap Some (sym (values_at fixed i))

  has : HasFixed fixed x
  has = record {
    long = long;
    bits = λ i b there. elim (cases_lt i (length fixed)) [
      | inl below ↦ same_Some (bit x i) b (sym (at i below) ∙ there)
      | inr past ↦ absurd (none-some b (sym (get_or_past fixed i None past) ∙ there))
    ];
  }

  here : AreHere fixed 0 x
  here = record { each = λ i below. let same : 0 + i ≡ i = omega arith in ap (fixed_at fixed) same ∙ at i (omega (arith, below, long)) }

  -- a row that clashes by itself, or a span that is 0 bit by bit
  pub right_leaf : ((k : ℕ) × (k < length rows) × (is_sum rows fixed (Row k ∷ ones (get_or rows k []) 0) [] true ≡ true))
      ⊎ ((s : Span) × (is_span spans s ≡ true) × (zeros_of rows fixed s (zero_sums s.count s.first) ≡ true))
  unfolding Unsolved Missed
  right_leaf = elim (bad_row rows x) [
    | inr bad ↦ inl (bad.0, bad.1, row_leaf rows fixed x bad.0 here bad.1 (let fits = short bad.0 [] bad.1 in omega (arith, fits, long)) bad.2)
    | inl sums ↦ elim (bad_span spans x) [
      | inl met ↦ absurd (refuted.none x (record { sums = sums; met = met }) has)
      | inr bad ↦
          let span : Span = bad.0 in
          let fits : span.first + span.count ≤ length fixed = of_span (λ (s : Span). s.first + s.count ≤ length fixed) spans span bad.1 within in
          inr (bad.0, bad.1, zeros_leaf rows fixed span.count span.first (λ i below. at (span.first + i) (omega (arith, fits, below)) ∙ ap Some (bad.2 i below)))
    ]
  ]

  leaf : HasTree rows spans fixed
  leaf = elim right_leaf [
    | inl row ↦ record { tree = Clash (Row row.0 ∷ ones (get_or rows row.0 []) 0); checked = row.2 }
    | inr span ↦ record {
      tree = Zero span.0 (zero_sums span.0.count span.0.first);
      checked = both_true (is_span spans span.0) (zeros_of rows fixed span.0 (zero_sums span.0.count span.0.first)) span.1 span.2;
    }
  ]

-- fixing a bit that is not fixed keeps what is refuted
pub narrower : (rows : List (List Bool)) (spans : List Span) (fixed : List (Option Bool)) (place : ℕ) (b : Bool) → fixed_at fixed place ≡ None → IsRefuted rows spans fixed → IsRefuted rows spans (with_bit place b fixed)
narrower rows spans fixed place b free refuted = record {
  none = λ x admissible has.
      refuted.none x admissible (record {
        long = has.long ∙ length-set fixed place (Some b);
        bits = λ i c there. elim (cases_eq i place) [
          | inl same ↦ absurd (none-some c (sym free ∙ ap (fixed_at fixed) (sym same) ∙ there))
          | inr other ↦ has.bits i c (get_or-set_other fixed place i (Some b) None other ∙ there)
        ];
      });
}

fixed_more : (k : ℕ) (fixed : List (Option Bool)) (b : Bool) → AreFixedFrom (suc k) fixed → AreFixedFrom k (with_bit k b fixed)
fixed_more k fixed b all = record {
  each = λ i behind below.
      let inside : i < length fixed = omega (arith, below, length-set fixed k (Some b)) in
      elim (cases_eq i k) [
        | inl same ↦ ap is_fixed (get_or-set_at fixed k i (Some b) None same (omega (arith, inside, same)))
        | inr other ↦ ap is_fixed (get_or-set_other fixed k i (Some b) None other) ∙ all.each i (omega (arith, behind, other)) inside
      ];
}

shorter : (n m : ℕ) (rows : List (List Bool)) → m ≡ n → All (λ row. length row ≤ n) rows → All (λ row. length row ≤ m) rows
shorter n m rows same all i d below = let one = all i d below in omega (arith, one, same)

spans_within : (n m : ℕ) (spans : List Span) → m ≡ n → All (λ (s : Span). s.first + s.count ≤ n) spans → All (λ (s : Span). s.first + s.count ≤ m) spans
spans_within n m spans same all i d below = let one = all i d below in omega (arith, one, same)

grown : (k : ℕ) (rows : List (List Bool)) (spans : List Span) (fixed : List (Option Bool)) → All (λ row. length row ≤ length fixed) rows → All (λ (s : Span). s.first + s.count ≤ length fixed) spans
    → k ≤ length fixed → AreFixedFrom k fixed → IsRefuted rows spans fixed → HasTree rows spans fixed
grown zero rows spans fixed short within low all refuted = leaf rows spans fixed short within all refuted
grown (suc k) rows spans fixed short within low all refuted =
    go (fixed_at fixed k) refl (grown k rows spans fixed short within (omega (arith, low)))
    (λ b. grown k rows spans (with_bit k b fixed) (shorter (length fixed) (length (with_bit k b fixed)) rows (length-set fixed k (Some b)) short)
    (spans_within (length fixed) (length (with_bit k b fixed)) spans (length-set fixed k (Some b)) within) (omega (arith, low, length-set fixed k (Some b))) (fixed_more k fixed b all))
  where
    go : (o : Option Bool) → fixed_at fixed k ≡ o → (AreFixedFrom k fixed → IsRefuted rows spans fixed → HasTree rows spans fixed)
        → ((b : Bool) → IsRefuted rows spans (with_bit k b fixed) → HasTree rows spans (with_bit k b fixed)) → HasTree rows spans fixed
    go (Some b) is same more =
        same (record {
          each = λ i behind below. elim (cases_eq i k) [
            | inl here ↦ ap is_fixed (ap (fixed_at fixed) here ∙ is)
            | inr other ↦ all.each i (omega (arith, behind, other)) below
          ];
        }) refuted
    go None is same more =
        let off : HasTree rows spans (with_bit k false fixed) = more false (narrower rows spans fixed k false is refuted) in
        let on : HasTree rows spans (with_bit k true fixed) = more true (narrower rows spans fixed k true is refuted) in
        record { tree = Split k off.tree on.tree; checked = both_true (nat_lt k (length fixed)) (checks rows spans (with_bit k false fixed) off.tree && checks rows spans (with_bit k true fixed) on.tree) (lt-ltb k (length fixed) (omega (arith, low))) (both_true (checks rows spans (with_bit k false fixed) off.tree) (checks rows spans (with_bit k true fixed) on.tree) off.checked on.checked) }

pub refuted_has_tree : RefutedHasTree
refuted_has_tree rows spans fixed short within refuted =
    grown (length fixed) rows spans fixed short within (omega arith) (record { each = λ i behind below. absurd (omega (arith, behind, below)) }) refuted
