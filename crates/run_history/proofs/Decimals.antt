-- A decimal without leading zeros is read as the number that it is written for, and nothing else is.
use Rattle.std.proofs.Common.{◌≡◌, ◌≢◌, ℕ, zero, suc, ◌≤◌, ◌<◌, ◌^◌, Bool, true, false, List, [], ◌∷◌, length, get_or, refl, sym, ap, ◌∙◌, arith, inl, inr}
use Rattle.std.specs.Prelude.{Some, None, nat_eq}
use Rattle.std.specs.Fmt as fmt
use Rattle.std.specs.Int.{IsInRange}
use Rattle.std.proofs.lemmas.Bool.{eqb-true, eq-eqb, ne_eqb, lt-ltb, le-ltb, cases_lt, false≢true}
use Rattle.std.proofs.lemmas.Fmt.{decimal_digit, decimal_nonempty, first_decimal, digits_decimal, digits_value-decimal, decimal-digits_value}
use Rattle.std.proofs.lemmas.Str.Parse.{IsNumeralModel, IsDigitsTest, FoldsDigits, numerals_by_fold}
use Rattle.nf_tokens.specs.Bytes.{is_digit, front_length}
use Rattle.nf_tokens.specs.Numbers.{value_from, fitting, has_no_leading_zero, decimal}

abbrev AreDigits : List ℕ → Type 0
AreDigits ds = front_length is_digit ds ≡ length ds

digit_in : (b : ℕ) → IsInRange 48 57 b → is_digit b ≡ true
digit_in b h = rw (le-ltb b 48 (omega (arith, h)), le-ltb 57 b (omega (arith, h))) refl

in_digit : (b : ℕ) → is_digit b ≡ true → IsInRange 48 57 b
in_digit b h = elim (cases_lt b 48) [
  | inl low ↦ absurd (false≢true (sym (rw (lt-ltb b 48 low) refl) ∙ h))
  | inr more ↦ elim (cases_lt 57 b) [
    | inl high ↦ absurd (false≢true (sym (rw (le-ltb b 48 more, lt-ltb 57 b high) refl) ∙ h))
    | inr less ↦ (more, less)
  ]
]

parts : (c : ℕ) (cs : List ℕ) (b : Bool) → is_digit c ≡ b → AreDigits (c ∷ cs) → IsInRange 48 57 c × AreDigits cs
parts c cs true e h = (in_digit c e, omega (arith, (rw e at h)))
parts c cs false e h = absurd (omega (arith, (rw e at h)))

more : (c : ℕ) (cs : List ℕ) → IsInRange 48 57 c → AreDigits cs → AreDigits (c ∷ cs)
more c cs k h = rw (digit_in c k) (ap suc h)

tells : IsDigitsTest AreDigits
tells = record { empty = refl; parts = λ c cs h. parts c cs (is_digit c) refl h; more = more }

folds : FoldsDigits (value_from 10)
folds = record { empty = λ n. refl; more = λ n c cs k. rw (digit_in c k) refl }

own : IsNumeralModel AreDigits (value_from 10 0)
own = numerals_by_fold AreDigits tells (value_from 10) folds

-- ---- without leading zeros

no_zero : (ds : List ℕ) → 0 < length ds → (get_or ds 0 0 ≡ 48 → length ds ≡ 1) → has_no_leading_zero ds ≡ true
no_zero [] some lead = absurd (omega arith)
no_zero (d ∷ []) some lead = refl
no_zero (d ∷ e ∷ ds) some lead = rw (ne_eqb d 48 (λ is. omega (arith, lead is))) refl

zero_alone : (ds : List ℕ) → has_no_leading_zero ds ≡ true → (0 < length ds) × (get_or ds 0 0 ≡ 48 → length ds ≡ 1)
zero_alone [] h = absurd (false≢true h)
zero_alone (d ∷ []) h = (omega arith, λ e. refl)
zero_alone (d ∷ e ∷ ds) h = (omega arith, λ is. absurd (false≢true (sym (rw (eq-eqb d 48 is) refl) ∙ h)))

lead_of : (n : ℕ) → n < 2 ^ 64 → get_or (fmt.decimal n) 0 0 ≡ 48 → length (fmt.decimal n) ≡ 1
lead_of zero small e = ap length (decimal_digit 0 (omega arith))
lead_of (suc n) small e = absurd (omega (arith, first_decimal (suc n) (omega arith) small))

pub reads_decimal : (n : ℕ) → n < 2 ^ 64 → decimal (fmt.decimal n) ≡ Some n
reads_decimal n small =
    let ds = fmt.decimal n in
    let all : nat_eq (front_length is_digit ds) (length ds) ≡ true = eq-eqb _ _ (digits_decimal own n small) in
    let lead = no_zero ds (decimal_nonempty n small) (lead_of n small) in
    let value : value_from 10 0 ds ≡ n = digits_value-decimal own n small in
    rw (all, lead, value, lt-ltb n (2 ^ 64) small) refl

-- which digits, and which value
told : (bs : List ℕ) (n : ℕ) (a l : Bool) → nat_eq (front_length is_digit bs) (length bs) ≡ a → has_no_leading_zero bs ≡ l → decimal bs ≡ Some n → (a ≡ true) × (l ≡ true) × (fitting (value_from 10 0 bs) ≡ Some n)
told bs n true true e f h = (refl, refl, (rw (e, f) at h))
told bs n true false e f h = absurd (let no : None ≡ Some n = (rw (e, f) at h) in cc)
told bs n false l e f h = absurd (let no : None ≡ Some n = (rw e at h) in cc)

fits : (v n : ℕ) → fitting v ≡ Some n → (v ≡ n) × (n < 2 ^ 64)
fits v n h = elim (cases_lt v (2 ^ 64)) [
  | inl lt ↦ (let is : Some v ≡ Some n = (rw (lt-ltb v (2 ^ 64) lt) at h) in let e : v ≡ n = cc in (e, omega (arith, e)))
  | inr le ↦ (absurd (let no : None ≡ Some n = (rw (le-ltb v (2 ^ 64) le) at h) in cc))
]

pub is_decimal : (bs : List ℕ) (n : ℕ) → decimal bs ≡ Some n → (fmt.decimal n ≡ bs) × (n < 2 ^ 64)
is_decimal bs n h =
    let parts = told bs n _ _ refl refl h in
    let value = fits (value_from 10 0 bs) n parts.2 in
    let digits : AreDigits bs = eqb-true (front_length is_digit bs) (length bs) parts.0 in
    let lead = zero_alone bs parts.1 in
    (sym (ap fmt.decimal value.0) ∙ decimal-digits_value own bs digits lead.0 lead.1 (omega (arith, value.0, value.1)), value.1)

-- ---- below 2^32

pub is_read : (bs : List ℕ) (n : ℕ) → decimal bs ≡ Some n → n < 2 ^ 32 → (n < 2 ^ 32) × (fmt.decimal n ≡ bs)
is_read bs n h small = (small, (is_decimal bs n h).0)

value_one : (bs : List ℕ) (m a : ℕ) → decimal bs ≡ Some m → a < 2 ^ 32 → fmt.decimal a ≡ bs → a ≡ m
value_one bs m a h small e = let both : Some a ≡ Some m = sym (reads_decimal a (omega arith)) ∙ ap decimal e ∙ h in cc

pub too_large : (bs : List ℕ) (m : ℕ) → decimal bs ≡ Some m → 2 ^ 32 ≤ m → (a : ℕ) → a < 2 ^ 32 → fmt.decimal a ≢ bs
too_large bs m h large a small e = absurd (omega (arith, value_one bs m a h small e))

pub none_read : (bs : List ℕ) → decimal bs ≡ None → (a : ℕ) → a < 2 ^ 32 → fmt.decimal a ≢ bs
none_read bs h a small e = let both : Some a ≡ None = sym (reads_decimal a (omega arith)) ∙ ap decimal e ∙ h in absurd cc
