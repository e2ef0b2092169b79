-- A tree that checks refutes.
use Rattle.std.proofs.Common.{◌≡◌, ◌≢◌, ◌⊎◌, ℕ, zero, suc, ◌+◌, ◌<◌, ◌==◌, nat_lt, ◌&&◌, refl, sym, ap, ◌∙◌, inl, inr, Bool, true, false, List, [], ◌∷◌, length, All, Option, Some, None, get_or, set, replicate, arith, if◌then◌else◌, subst}
use Rattle.std.specs.List.{Any}
use Rattle.std.proofs.lemmas.List.Folds.{Any-from_list_any}
use Rattle.std.proofs.lemmas.Bool.{and_parts, ltb-true, eqb-true, cases_eq, cases_lt, cases_Bool, false≢true}
use Rattle.std.proofs.lemmas.List.{get_or-set_other, get_or_past, length-set, length-replicate}
use Rattle.std.proofs.lemmas.Grind.{get_or-set_at}
use Rattle.std.proofs.lemmas.List.FromFn.{length-map-range_with_len, get_or-map-range_with_len}
use Rattle.std.proofs.lemmas.Option.{none-some, same_Some}
use Rattle.gf2_solve.specs.Sums.{bit, sum_of}
use Rattle.certificate_laws.specs.declared.line.Term.{Term}
use Rattle.certificate_laws.specs.declared.line.Span.{Span}
use Rattle.certificate_laws.specs.Fixed.{with_bit, none_fixed, fixed_before, HasFixed}
use Rattle.certificate_laws.specs.Terms.{alone, is_sum}
use Rattle.certificate_laws.specs.Trees.{Split, Clash, Zero, are_zero, zeros_of, same_span, is_span, checks, Meets, IsRefuted}
use Rattle.certificate_laws.specs.Laws.{AgreeWhere, ChecksRefute, RefutedIsNearest}
use Rattle.certificate_laws.proofs.Adding.{sum_is, sum_of-alone}

-- a vector's own bit is fixed as well
pub has_bit : (fixed : List (Option Bool)) (x : List Bool) (place : ℕ) (b : Bool) → HasFixed fixed x → bit x place ≡ b → HasFixed (with_bit place b fixed) x
has_bit fixed x place b has is = record {
  long = has.long ∙ sym (length-set fixed place (Some b));
  bits = λ i c there. elim (cases_eq i place) [
    | inl same ↦ elim (cases_lt place (length fixed)) [
      | inl within ↦ ap (bit x) same ∙ is ∙ same_Some b c (sym (get_or-set_at fixed place i (Some b) None same within) ∙ there)
      | inr past ↦ absurd (none-some c (sym (get_or_past (set fixed place (Some b)) i None (omega (arith, length-set fixed place (Some b), same, past))) ∙ there))
    ]
    | inr other ↦ has.bits i c (sym (get_or-set_other fixed place i (Some b) None other) ∙ there)
  ];
}

pub split_refutes : (rows : List (List Bool)) (spans : List Span) (fixed : List (Option Bool)) (place : ℕ) → IsRefuted rows spans (with_bit place false fixed) → IsRefuted rows spans (with_bit place true fixed)
    → IsRefuted rows spans fixed
split_refutes rows spans fixed place off on = record {
  none = λ x is has. elim (cases_Bool (bit x place)) [
    | inl one ↦ on.none x is (has_bit fixed x place true has one)
    | inr nil ↦ off.none x is (has_bit fixed x place false has nil)
  ];
}

pub clash_refutes : (rows : List (List Bool)) (spans : List Span) (fixed : List (Option Bool)) (ts : List Term) → is_sum rows fixed ts [] true ≡ true → IsRefuted rows spans fixed
clash_refutes rows spans fixed ts is = record { none = λ x admissible has. false≢true (sum_is rows fixed x ts [] true admissible.sums has is) }

-- the places of a span are 0
zeros : (rows : List (List Bool)) (fixed : List (Option Bool)) (x : List Bool) (count place : ℕ) (sums : List (List Term)) → All (λ row. sum_of row x ≡ false) rows → HasFixed fixed x
    → are_zero rows fixed count place sums ≡ true → (i : ℕ) → i < count → bit x (place + i) ≡ false
zeros rows fixed x zero place sums all has is i below = absurd (omega (arith, below))
zeros rows fixed x (suc count) place [] all has is i below = absurd (false≢true is)
zeros rows fixed x (suc count) place (s ∷ sums) all has is i below =
    let parts = and_parts (is_sum rows fixed s (alone place) false) (are_zero rows fixed count (suc place) sums) is in
    at i below (zeros rows fixed x count (suc place) sums all has parts.1) (sum_is rows fixed x s (alone place) false all has parts.0)
  where
    at : (j : ℕ) → j < suc count → ((k : ℕ) → k < count → bit x (suc place + k) ≡ false) → sum_of (alone place) x ≡ false → bit x (place + j) ≡ false
    at zero within more here = let same : place + 0 ≡ place = omega arith in ap (bit x) same ∙ sym (sum_of-alone place x) ∙ here
    at (suc j) within more here = let same : place + suc j ≡ suc place + j = omega arith in ap (bit x) same ∙ more j (omega (arith, within))

abbrev span_with : ℕ → ℕ → Span
span_with first count = record { first = first; count = count }

both_one : (a b : Span) → a.first ≡ b.first → a.count ≡ b.count → a ≡ b
both_one a b first count = ap (λ n. span_with n a.count) first ∙ ap (λ n. span_with b.first n) count

-- what holds of all of some spans holds of each of them
pub of_span : (P : Span → Type 0) (spans : List Span) (span : Span) → is_span spans span ≡ true → All P spans → P span
of_span P spans span is all =
    let found : Any (λ s. same_span span s ≡ true) spans = Any-from_list_any (same_span span) spans is in
    let parts = and_parts (span.first == found.1.first) (span.count == found.1.count) found.4 in
    subst P (found.3 ∙ sym (both_one span found.1 (eqb-true span.first found.1.first parts.0) (eqb-true span.count found.1.count parts.1))) (all found.0 found.1 found.2)

pub zero_refutes : (rows : List (List Bool)) (spans : List Span) (fixed : List (Option Bool)) (span : Span) (sums : List (List Term)) → is_span spans span ≡ true
    → zeros_of rows fixed span sums ≡ true → IsRefuted rows spans fixed
zero_refutes rows spans fixed span sums within is = record {
  none = λ x admissible has.
      let meets : Meets x span = of_span (Meets x) spans span within admissible.met in
      false≢true (sym (zeros rows fixed x span.count span.first sums admissible.sums has is meets.offset meets.within) ∙ meets.one);
}

pub checks_refute : ChecksRefute
checks_refute rows spans fixed (Split place off on) is =
    let inside = and_parts (nat_lt place (length fixed)) (checks rows spans (with_bit place false fixed) off && checks rows spans (with_bit place true fixed) on) is in
    let parts = and_parts (checks rows spans (with_bit place false fixed) off) (checks rows spans (with_bit place true fixed) on) inside.1 in
    split_refutes rows spans fixed place (checks_refute rows spans (with_bit place false fixed) off parts.0) (checks_refute rows spans (with_bit place true fixed) on parts.1)
checks_refute rows spans fixed (Clash ts) is = clash_refutes rows spans fixed ts is
checks_refute rows spans fixed (Zero span sums) is =
    let parts = and_parts (is_span spans span) (zeros_of rows fixed span sums) is in
    zero_refutes rows spans fixed span sums parts.0 parts.1

-- what a bit is fixed to
abbrev fix : (ℕ → Bool) → List Bool → ℕ → ℕ → Option Bool
fix counts x place k = if nat_lt k place && counts k then Some (bit x k) else None

-- a vector with the same earlier bits, as far as they count
pub has_before : (counts : ℕ → Bool) (n : ℕ) (x y : List Bool) (place : ℕ) → length y ≡ n → AgreeWhere counts place x y → HasFixed (fixed_before counts n x place) y
has_before counts n x y place long agree = record {
  long = long ∙ sym (length-map-range_with_len (fix counts x place) 0 n);
  bits = λ i b there. elim (cases_lt i n) [
    | inl within ↦
        let is : fix counts x place i ≡ Some b = sym (get_or-map-range_with_len (fix counts x place) 0 n i i None within (omega arith)) ∙ there in
        elim (cases_Bool (nat_lt i place && counts i)) [
          | inl before ↦
              let parts = and_parts (nat_lt i place) (counts i) before in
              sym (agree.bits i (ltb-true i place parts.0) parts.1) ∙ same_Some (bit x i) b (sym (ap (λ t. if t then Some (bit x i) else None) before) ∙ is)
          | inr behind ↦ absurd (none-some b (sym (ap (λ t. if t then Some (bit x i) else None) behind) ∙ is))
        ]
    | inr past ↦ absurd (none-some b (sym (get_or_past (fixed_before counts n x place) i None (omega (arith, past, length-map-range_with_len (fix counts x place) 0 n))) ∙ there))
  ];
}

pub same_or_not : (a b : Bool) → (a ≡ b) ⊎ (a ≢ b)
same_or_not false false = inl refl
same_or_not true true = inl refl
same_or_not false true = inr (λ h. false≢true h)
same_or_not true false = inr (λ h. false≢true (sym h))

pub refuted_is_nearest : RefutedIsNearest
refuted_is_nearest counts rows spans n wanted x are = record {
  nearest = λ i below there. elim (same_or_not (bit x i) (bit wanted i)) [
    | inl same ↦ inl same
    | inr other ↦ inr (λ y long admissible agree is.
        (are.each i below there other).none y admissible (has_bit (fixed_before counts n x i) y i (bit wanted i) (has_before counts n x y i long agree) is))
  ];
}

nothing_at : (n i : ℕ) → get_or (replicate {A = Option Bool} n None) i None ≡ None
nothing_at zero i = refl
nothing_at (suc n) zero = refl
nothing_at (suc n) (suc i) = nothing_at n i

pub nothing_fixed : (n : ℕ) (x : List Bool) → length x ≡ n → HasFixed (none_fixed n) x
nothing_fixed n x long = record { long = long ∙ sym (length-replicate {A = Option Bool} n None); bits = λ i b there. absurd (none-some b (sym (nothing_at n i) ∙ there)) }
