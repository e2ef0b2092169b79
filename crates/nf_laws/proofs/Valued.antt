-- The values of a text at their edges.
use Rattle.std.proofs.Common.{◌≡◌, ◌≢◌, ◌<◌, ◌≤◌, ◌+◌, ◌-◌, ◌*◌, ◌/◌, ◌%◌, ◌^◌, ◌==◌, min, ℕ, zero, suc, Bool, true, false, not, nat_lt, if◌then◌else◌, refl, ap₂, sym, ◌∙◌, subst, arith, inl, inr, eqb-true, eq-eqb}
use Rattle.std.proofs.lemmas.Bool.{cases_Bool, ltb-true, ltb-false, leb-true, le-leb}
use Rattle.std.proofs.Math.Nat.{mod-lt, mod-eq_of_lt, add-mod_right, div-le_self, mod-le}
use Rattle.std.proofs.lemmas.Nat.{div-add-mod', and_le_l}
use Rattle.std.proofs.lemmas.Nat.Bits.{bit_at_and}
use Rattle.nf_base.specs.declared.width.Width.{Width}
use Rattle.nf_base.specs.declared.width.Width.TheVariants.{W8, W16, W32, W48, W64, W128}
use Rattle.nf_base.specs.declared.expr.Operator.TheVariants.{Plus, Minus, Times, Over, Modulo, And}
use Rattle.nf_base.specs.Values.{bits, result_of}
use Rattle.nf_laws.specs.Values.{HaveTheirWidths, FieldsAreRead, ValuesAreNarrowed, Saturates, Divides, OperatorsCompute, ValuesStayInBounds, ComparisonsCompare}

pub their_widths : HaveTheirWidths
their_widths = record { widths = refl; fields = refl; settable = refl; hashable = refl }

pub fields_read : FieldsAreRead
fields_read time p = refl

-- widths
positive : (w : Width) → 0 < 2 ^ bits w
positive W8 = omega arith
positive W16 = omega arith
positive W32 = omega arith
positive W48 = omega arith
positive W64 = omega arith
positive W128 = omega arith

pub values_narrowed : ValuesAreNarrowed
values_narrowed w v = record { below = mod-lt v (positive w); fits = λ lt. mod-eq_of_lt lt; round = add-mod_right v (2 ^ bits w) }

-- operators
saturates : (a b : ℕ) → Saturates a b
saturates a b = record {
  sum = λ lt. omega (arith, lt);
  most = λ le. omega (arith, le);
  difference = λ le. omega (arith, le);
  least = λ le. omega (arith, le);
  product = λ lt. of_product (a * b) lt;
  most_product = λ le. of_most (a * b) le;
}
  where
    of_product : (n : ℕ) → n < 2 ^ 128 → min n (2 ^ 128 - 1) ≡ n
    of_product n lt = omega (arith, lt)

    of_most : (n : ℕ) → 2 ^ 128 ≤ n → min n (2 ^ 128 - 1) ≡ 2 ^ 128 - 1
    of_most n le = omega (arith, le)

by_some : (b : ℕ) → 0 < b → (b == 0) ≡ false
by_some zero lt = absurd (omega (arith, lt))
by_some (suc b) lt = elim (cases_Bool (suc b == 0)) [ inl t ↦ let same : suc b ≡ 0 = eqb-true (suc b) 0 t in absurd (omega (arith, same)) | inr f ↦ f ]

if_some : (c : Bool) (x : ℕ) → c ≡ false → (if c then 0 else x) ≡ x
if_some true x e = cc
if_some false x e = refl

if_none : (c : Bool) (x : ℕ) → c ≡ true → (if c then 0 else x) ≡ 0
if_none true x e = refl
if_none false x e = cc

divides : (a b : ℕ) → Divides a b
divides a b = record {
  whole = λ lt. ap₂ (λ q r. q * b + r) (if_some (b == 0) (a / b) (by_some b lt)) (if_some (b == 0) (a % b) (by_some b lt)) ∙ div-add-mod' a b;
  below = λ lt. subst (λ (r : ℕ). r < b) (sym (if_some (b == 0) (a % b) (by_some b lt))) (mod-lt a lt);
  by_none = λ e. if_none (b == 0) (a / b) (eq-eqb b 0 e);
  none_left = λ e. if_none (b == 0) (a % b) (eq-eqb b 0 e);
}

pub operators_compute : OperatorsCompute
operators_compute a b = record { saturates = saturates a b; divides = divides a b; common = λ i. bit_at_and a b i }

if_bound : (c : Bool) (x : ℕ) → x < 2 ^ 128 → (if c then 0 else x) < 2 ^ 128
if_bound true x lt = omega arith
if_bound false x lt = lt

under : (x a : ℕ) → x ≤ a → a < 2 ^ 128 → x < 2 ^ 128
under x a le lt = omega (arith, le, lt)

at_most : (n : ℕ) → min n (2 ^ 128 - 1) < 2 ^ 128
at_most n = omega arith

pub values_stay : ValuesStayInBounds
values_stay Plus a b la lb = at_most (a + b)
values_stay Minus a b la lb = omega (arith, la)
values_stay Times a b la lb = at_most (a * b)
values_stay Over a b la lb = if_bound (b == 0) (a / b) (under (a / b) a (div-le_self a b) la)
values_stay Modulo a b la lb = if_bound (b == 0) (a % b) (under (a % b) a (mod-le a b) la)
values_stay And a b la lb = under (result_of And a b) a (and_le_l a b) la

-- comparisons
not_true : (c : Bool) → not c ≡ true → c ≡ false
not_true true e = cc
not_true false e = refl

true_not : (c : Bool) → c ≡ false → not c ≡ true
true_not true e = cc
true_not false e = refl

differ : (a b : ℕ) → (a == b) ≡ false → a ≢ b
differ a b e q = let same = eq-eqb a b q in cc

differs : (a b : ℕ) → a ≢ b → (a == b) ≡ false
differs a b d = elim (cases_Bool (a == b)) [ inl t ↦ absurd (d (eqb-true a b t)) | inr f ↦ f ]

less_true : (a b : ℕ) → a < b → nat_lt a b ≡ true
less_true a b lt = elim (cases_Bool (nat_lt a b)) [ inl t ↦ t | inr f ↦ let le = ltb-false a b f in absurd (omega (arith, le, lt)) ]

pub comparisons_compare : ComparisonsCompare
comparisons_compare a b = record {
  equal = (λ e. eqb-true a b e, λ e. eq-eqb a b e);
  not_equal = (λ e. differ a b (not_true (a == b) e), λ d. true_not (a == b) (differs a b d));
  less = (λ e. ltb-true a b e, λ lt. less_true a b lt);
  at_most = (λ e. leb-true a b e, λ le. le-leb a b le);
  greater = (λ e. ltb-true b a e, λ lt. less_true b a lt);
  at_least = (λ e. leb-true b a e, λ le. le-leb b a le);
}
