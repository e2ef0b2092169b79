-- A decimal is read as the number that it is written for.
use Rattle.std.proofs.Common.{◌≡◌, ℕ, zero, suc, ◌<◌, ◌^◌, Bool, true, false, List, [], ◌∷◌, length, get_or, refl, sym, ap, ◌∙◌, arith, inl, inr, if◌then◌else◌}
use Rattle.std.specs.Prelude.{Some, None, nat_eq}
use Rattle.std.specs.Fmt as fmt
use Rattle.std.specs.Int.{IsInRange}
use Rattle.std.proofs.lemmas.Bool.{eq-eqb, ne_eqb, lt-ltb, le-ltb, cases_lt, false≢true}
use Rattle.std.proofs.lemmas.Fmt.{decimal_digit, decimal_nonempty, first_decimal, digits_decimal, digits_value-decimal}
use Rattle.std.proofs.lemmas.Str.Parse.{IsNumeralModel, IsDigitsTest, FoldsDigits, numerals_by_fold}
use Rattle.nf_tokens.specs.Bytes.{is_digit, front_length}
use Rattle.nf_tokens.specs.Numbers.{value_from, has_no_leading_zero, decimal}
use Rattle.certificate_text.specs.Words.{and_then, short, number}

abbrev AreDigits : List ℕ → Type 0
AreDigits ds = front_length is_digit ds ≡ length ds

digit_in : (b : ℕ) → IsInRange 48 57 b → is_digit b ≡ true
digit_in b h = rw (le-ltb b 48 (omega (arith, h)), le-ltb 57 b (omega (arith, h))) refl

in_digit : (b : ℕ) → is_digit b ≡ true → IsInRange 48 57 b
in_digit b h = elim (cases_lt b 48) [
  | inl low ↦ absurd (false≢true (sym (rw (lt-ltb b 48 low) refl) ∙ h))
  | inr more ↦ elim (cases_lt 57 b) [
    | inl high ↦ absurd (false≢true (sym (rw (le-ltb b 48 more, lt-ltb 57 b high) refl) ∙ h))
    | inr less ↦ (more, less)
  ]
]

parts : (c : ℕ) (cs : List ℕ) (b : Bool) → is_digit c ≡ b → AreDigits (c ∷ cs) → IsInRange 48 57 c × AreDigits cs
parts c cs true e h = (in_digit c e, omega (arith, (rw e at h)))
parts c cs false e h = absurd (omega (arith, (rw e at h)))

more : (c : ℕ) (cs : List ℕ) → IsInRange 48 57 c → AreDigits cs → AreDigits (c ∷ cs)
more c cs k h = rw (digit_in c k) (ap suc h)

tells : IsDigitsTest AreDigits
tells = record { empty = refl; parts = λ c cs h. parts c cs (is_digit c) refl h; more = more }

folds : FoldsDigits (value_from 10)
folds = record { empty = λ n. refl; more = λ n c cs k. rw (digit_in c k) refl }

own : IsNumeralModel AreDigits (value_from 10 0)
own = numerals_by_fold AreDigits tells (value_from 10) folds

-- ---- without leading zeros

no_zero : (ds : List ℕ) → 0 < length ds → (get_or ds 0 0 ≡ 48 → length ds ≡ 1) → has_no_leading_zero ds ≡ true
no_zero [] some lead = absurd (omega arith)
no_zero (d ∷ []) some lead = refl
no_zero (d ∷ e ∷ ds) some lead = rw (ne_eqb d 48 (λ is. omega (arith, lead is))) refl

lead_of : (n : ℕ) → n < 2 ^ 64 → get_or (fmt.decimal n) 0 0 ≡ 48 → length (fmt.decimal n) ≡ 1
lead_of zero small e = ap length (decimal_digit 0 (omega arith))
lead_of (suc n) small e = absurd (omega (arith, first_decimal (suc n) (omega arith) small))

pub reads_decimal : (n : ℕ) → n < 2 ^ 64 → decimal (fmt.decimal n) ≡ Some n
reads_decimal n small =
    let ds = fmt.decimal n in
    let all : nat_eq (front_length is_digit ds) (length ds) ≡ true = eq-eqb _ _ (digits_decimal own n small) in
    let lead = no_zero ds (decimal_nonempty n small) (lead_of n small) in
    let value : value_from 10 0 ds ≡ n = digits_value-decimal own n small in
    rw (all, lead, value, lt-ltb n (2 ^ 64) small) refl

-- a number of 32 bits
pub read_short : (n : ℕ) → n < 2 ^ 32 → number (fmt.decimal n) ≡ Some n
read_short n small = ap (λ o. and_then o short) (reads_decimal n (omega arith)) ∙ ap (λ b. if b then Some n else None) (lt-ltb n (2 ^ 32) small)
