-- What the nearest solution is: there is one, and it is the first one.
use Rattle.std.proofs.Common.{◌≡◌, ◌≢◌, ℕ, zero, suc, ◌<◌, ◌≤◌, refl, sym, ap, ◌∙◌, inl, inr, ◌⊎◌, Bool, true, false, List, length, arith}
use Rattle.std.proofs.lemmas.Bool.{cases_lt, false≢true}
use Rattle.std.proofs.lemmas.List.{ext_get_or, get_or_past}
use Rattle.gf2_solve.specs.Sums.{bit}
use Rattle.gf2_solve.specs.Solutions.{AgreeBelow, IsNearest}
use Rattle.gf2_solve.specs.Laws.{NearestIsOne, NearestIsFirst, FirstIsNearest}

two_others : (a b w : Bool) → a ≢ w → b ≢ w → a ≡ b
two_others false false w p q = refl
two_others true true w p q = refl
two_others false true false p q = absurd (p refl)
two_others false true true p q = absurd (q refl)
two_others true false false p q = absurd (q refl)
two_others true false true p q = absurd (p refl)

-- of two bits that differ one is the wanted one
of_two : (a b w : Bool) → a ≢ b → b ≢ w → a ≡ w
of_two false false w p q = absurd (p refl)
of_two true true w p q = absurd (p refl)
of_two false true false p q = refl
of_two false true true p q = absurd (q refl)
of_two true false false p q = absurd (q refl)
of_two true false true p q = refl

same_or_not : (a b : Bool) → (a ≡ b) ⊎ (a ≢ b)
same_or_not false false = inl refl
same_or_not true true = inl refl
same_or_not false true = inr (λ h. false≢true h)
same_or_not true false = inr (λ h. false≢true (sym h))

back : (i : ℕ) (x y : List Bool) → AgreeBelow i x y → AgreeBelow i y x
back i x y agree = record { bits = λ j below. sym (agree.bits j below) }

same_bit : (n : ℕ) (rows groups : List (List Bool)) (wanted x y : List Bool) → IsNearest n rows groups wanted x → IsNearest n rows groups wanted y
    → (i : ℕ) → i < n → AgreeBelow i x y → bit x i ≡ bit y i
same_bit n rows groups wanted x y one other i below agree = elim (one.nearest i below) [
  | inl p ↦ elim (other.nearest i below) [
    | inl q ↦ p ∙ sym q
    | inr q ↦ absurd (q.none x one.admissible (back i x y agree) p)
  ]
  | inr p ↦ elim (other.nearest i below) [
    | inl q ↦ absurd (p.none y other.admissible agree q)
    | inr q ↦ two_others (bit x i) (bit y i) (bit wanted i)
        (p.none x one.admissible (record { bits = λ j h. refl }))
        (q.none y other.admissible (record { bits = λ j h. refl }))
  ]
]

agree_more : (i : ℕ) (x y : List Bool) → AgreeBelow i x y → bit x i ≡ bit y i → AgreeBelow (suc i) x y
agree_more i x y agree same = record {
  bits = λ j below. elim (cases_lt j i) [
    | inl before ↦ agree.bits j before
    | inr behind ↦ let here : j ≡ i = omega arith in ap (bit x) here ∙ same ∙ ap (bit y) (sym here)
  ];
}

agree_below : (n : ℕ) (rows groups : List (List Bool)) (wanted x y : List Bool) → IsNearest n rows groups wanted x → IsNearest n rows groups wanted y
    → (i : ℕ) → i ≤ n → AgreeBelow i x y
agree_below n rows groups wanted x y one other zero within = record { bits = λ j below. absurd (omega arith) }
agree_below n rows groups wanted x y one other (suc i) within =
    let earlier = agree_below n rows groups wanted x y one other i (omega arith) in
    agree_more i x y earlier (same_bit n rows groups wanted x y one other i (omega arith) earlier)

pub one_nearest : NearestIsOne
one_nearest n rows groups wanted x y one other =
    let agree = agree_below n rows groups wanted x y one other n (omega arith) in
    let long : length x ≡ n = one.admissible.solution.length in
    ext_get_or false x y (long ∙ sym other.admissible.solution.length) (λ i below. agree.bits i (omega arith))

-- behind the last bit two solutions can't differ
pub first_nearest : NearestIsFirst
first_nearest n rows groups wanted x nearest = record {
  admissible = nearest.admissible;
  first = λ y is i differ. elim (cases_lt i n) [
    | inl below ↦ elim (nearest.nearest i below) [
      | inl same ↦ same
      | inr past ↦ of_two (bit x i) (bit y i) (bit wanted i) differ.differ (past.none y is differ.earlier)
    ]
    | inr behind ↦
        let long : length x ≡ n = nearest.admissible.solution.length in
        let wide : length y ≡ n = is.solution.length in
        absurd (differ.differ (get_or_past x i false (omega arith) ∙ sym (get_or_past y i false (omega arith))))
  ];
}

pub nearest_first : FirstIsNearest
nearest_first n rows groups wanted x first = record {
  admissible = first.admissible;
  nearest = λ i below. elim (same_or_not (bit x i) (bit wanted i)) [
    | inl same ↦ inl same
    | inr other ↦ inr (record {
      none = λ y is agree wanted_there.
          other (first.first y is i (record { earlier = agree; differ = λ same. other (same ∙ wanted_there) }));
    })
  ];
}
