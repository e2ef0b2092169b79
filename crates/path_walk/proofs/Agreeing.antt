-- Tests that contradict each other, and those that agree.
use Rattle.std.proofs.Common.{◌≡◌, ◌⊎◌, ℕ, Bool, true, false, not, ◌&&◌, ◌||◌, ◌==◌, eqb-true, eq-eqb, List, [], ◌∷◌, Contains, Option, Some, None, refl, ap, ap₂, sym, ◌∙◌, subst, inl, inr}
use Rattle.std.specs.List.{list_any}
use Rattle.std.proofs.lemmas.Bool.{and_parts}
use Rattle.nf_base.specs.declared.packet.Field.{Field}
use Rattle.nf_base.specs.Paths.{PathStep}
use Rattle.nf_laws.proofs.Listed.{here, there, has, has_none}
use Rattle.path_walk.specs.Tests.{Told, tests, field_number, same_text}
use Rattle.path_walk.specs.declared.test.FieldIs.{FieldIs}
use Rattle.path_walk.specs.Feasible.{equals_of, are_two, differ, contradicts, is_consistent, is_feasible, IsFeasible}
use Rattle.path_walk.proofs.Texts.{text_same, same_from, one_field}

abbrev pub is : Field → ℕ → Option FieldIs
is field n = Some (record { field = field; number = n })

pub record Agree (a b : Told) : Type 0 where
  pub one_way : a.text ≡ b.text → a.holds ≡ b.holds
  pub one_number :
      (field : Field) (m n : ℕ) → equals_of a.text ≡ is field m → equals_of b.text ≡ is field n →
      a.holds ≡ true → b.holds ≡ true → m ≡ n

abbrev pub number_in : Option FieldIs → ℕ
number_in None = 0
number_in (Some a) = a.number

pub agree_itself : (a : Told) → Agree a a
agree_itself a = record {
  one_way = λ e. refl;
  one_number = λ field m n x y h k. ap number_in (sym x ∙ y);
}

pub agree_back : (a b : Told) → Agree a b → Agree b a
agree_back a b h = record {
  one_way = λ e. sym (h.one_way (sym e));
  one_number = λ field m n x y i j. sym (h.one_number field n m y x j i);
}

-- tests of Bool
pub never_true : (x : Bool) → (x ≡ true → ⊥) → x ≡ false
never_true true h = absurd (h refl)
never_true false h = refl

pub or_true : (x y : Bool) → (x || y) ≡ true → (x ≡ true) ⊎ (y ≡ true)
or_true true y e = inl refl
or_true false y e = inr e

pub or_false : (x y : Bool) → (x || y) ≡ false → (x ≡ false) × (y ≡ false)
or_false true y e = cc
or_false false y e = (refl, e)

and_false : (x y : Bool) → (x && y) ≡ false → x ≡ true → y ≡ false
and_false true y e h = e
and_false false y e h = cc

not_false : (x : Bool) → not x ≡ false → x ≡ true
not_false true e = refl
not_false false e = cc

not_true : (x : Bool) → not x ≡ true → x ≡ false
not_true true e = cc
not_true false e = refl

same_way : (x y : Bool) → differ x y ≡ false → x ≡ y
same_way true true e = refl
same_way true false e = cc
same_way false true e = cc
same_way false false e = refl

other_way : (x y : Bool) → differ x y ≡ true → x ≡ y → ⊥
other_way true true e h = cc
other_way true false e h = cc
other_way false true e h = cc
other_way false false e h = cc

-- two numbers of one field
two_none : (x y : Option FieldIs) (field : Field) (m n : ℕ) → x ≡ is field m → y ≡ is field n → are_two x y ≡ false → m ≡ n
two_none x y field m n ex ey e =
    let h : are_two (is field m) (is field n) ≡ false = sym (ap₂ are_two ex ey) ∙ e in
    eqb-true m n (not_false (m == n) (and_false (field_number field == field_number field) (not (m == n)) h (eq-eqb (field_number field) (field_number field) refl)))

two_apart : (x y : Option FieldIs) → are_two x y ≡ true → ((field : Field) (m n : ℕ) → x ≡ is field m → y ≡ is field n → m ≡ n) → ⊥
two_apart None y e h = cc
two_apart (Some a) None e h = cc
two_apart (Some a) (Some b) e h =
    let w = and_parts (field_number a.field == field_number b.field) (not (a.number == b.number)) e in
    let f : a.field ≡ b.field = one_field a.field b.field (eqb-true (field_number a.field) (field_number b.field) w.0) in
    let n : a.number ≡ b.number = h a.field a.number b.number refl (ap (λ x. is x b.number) (sym f)) in
    let t : (a.number == b.number) ≡ true = eq-eqb a.number b.number n in
    let u : (a.number == b.number) ≡ false = not_true (a.number == b.number) w.1 in
    cc

pub agree_of : (a b : Told) → contradicts a b ≡ false → Agree a b
agree_of a b e =
    let w = or_false (same_text a.text b.text && differ a.holds b.holds) ((a.holds && b.holds) && are_two (equals_of a.text) (equals_of b.text)) e in
    record {
      one_way = λ h. same_way a.holds b.holds (and_false (same_text a.text b.text) (differ a.holds b.holds) w.0 (same_from a.text b.text h));
      one_number = λ field m n x y i j.
          let t : (a.holds && b.holds) ≡ true = ap₂ (λ u v. u && v) i j in
          two_none (equals_of a.text) (equals_of b.text) field m n x y (and_false (a.holds && b.holds) (are_two (equals_of a.text) (equals_of b.text)) w.1 t);
    }

pub none_contradicts : (a b : Told) → Agree a b → contradicts a b ≡ false
none_contradicts a b h = never_true (contradicts a b) (λ e.
    elim (or_true (same_text a.text b.text && differ a.holds b.holds) ((a.holds && b.holds) && are_two (equals_of a.text) (equals_of b.text)) e) [
      | inl w ↦ let u = and_parts (same_text a.text b.text) (differ a.holds b.holds) w in other_way a.holds b.holds u.1 (h.one_way (text_same a.text b.text u.0))
      | inr w ↦
          let u = and_parts (a.holds && b.holds) (are_two (equals_of a.text) (equals_of b.text)) w in
          let v = and_parts a.holds b.holds u.0 in
          two_apart (equals_of a.text) (equals_of b.text) u.1 (λ field m n x y. h.one_number field m n x y v.0 v.1)
    ])

-- a list of tests, each of which agrees with each
pub none_of : (f : Told → Bool) (ts : List Told) (t : Told) → list_any f ts ≡ false → Contains ts t → f t ≡ false
none_of f [] t e h = absurd (has_none t h)
none_of f (x ∷ ts) t e h =
    let w = or_false (f x) (list_any f ts) e in
    elim (has x ts t h) [ inl q ↦ ap f (sym q) ∙ w.0 | inr i ↦ none_of f ts t w.1 i ]

pub any_none : (f : Told → Bool) (ts : List Told) → ((t : Told) → Contains ts t → f t ≡ false) → list_any f ts ≡ false
any_none f [] h = refl
any_none f (x ∷ ts) h = ap₂ (λ a b. a || b) (h x (here x ts)) (any_none f ts (λ t i. h t (there x ts t i)))

abbrev pub AllAgree : List Told → Type 0
AllAgree ts = (a b : Told) → Contains ts a → Contains ts b → Agree a b

pub all_agree : (ts : List Told) → is_consistent ts ≡ true → AllAgree ts
all_agree [] e a b i j = absurd (has_none a i)
all_agree (t ∷ ts) e a b i j =
    let w = and_parts (not (list_any (contradicts t) ts)) (is_consistent ts) e in
    let first : (x : Told) → Contains ts x → Agree t x = λ x k. agree_of t x (none_of (contradicts t) ts x (not_true (list_any (contradicts t) ts) w.0) k) in
    elim (has t ts a i) [
      | inl p ↦ elim (has t ts b j) [ inl q ↦ subst (λ (x : Told). Agree a x) (sym p ∙ q) (agree_itself a) | inr k ↦ subst (λ (x : Told). Agree x b) p (first b k) ]
      | inr k ↦ elim (has t ts b j) [ inl q ↦ subst (λ (x : Told). Agree a x) q (agree_back t a (first a k)) | inr l ↦ all_agree ts w.1 a b k l ]
    ]

pub consistent : (ts : List Told) → AllAgree ts → is_consistent ts ≡ true
consistent [] h = refl
consistent (t ∷ ts) h = ap₂ (λ x y. not x && y)
    (any_none (contradicts t) ts (λ x i. none_contradicts t x (h t x (here t ts) (there t ts x i))))
    (consistent ts (λ a b i j. h a b (there t ts a i) (there t ts b j)))

pub feasible_is : (path : List PathStep) → is_feasible path ≡ true → IsFeasible path
feasible_is path e =
    let all = all_agree (tests path) e in
    record { one_way = λ a b i j. (all a b i j).one_way; one_number = λ a b field m n i j. (all a b i j).one_number field m n }

pub is_feasible_where : (path : List PathStep) → IsFeasible path → is_feasible path ≡ true
is_feasible_where path h = consistent (tests path) (λ a b i j. record { one_way = h.one_way a b i j; one_number = λ field m n. h.one_number a b field m n i j })
