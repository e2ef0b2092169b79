-- An equation that loses its leading bits, one by one.
use Rattle.std.proofs.Common.{◌≡◌, ◌<◌, ◌≤◌, refl, sym, ap, ◌∙◌, subst, get_or, Bool, true, false, List, [], ◌∷◌, ◌++◌, length, Option, Some, None, arith}
use Rattle.std.proofs.lemmas.List.{length_push, get_or_read}
use Rattle.gf2_solve.specs.Sums.{plus, bit, sum_of, IsSumOf, HasSameSums}
use Rattle.gf2_solve.specs.Equations.{gap_of, led_at, Solves, LeadsAnew, HasGap}
use Rattle.gf2_solve.specs.declared.equation.Equation.{Equation}
use Rattle.gf2_solve.proofs.SumLemmas.{plus_zero, plus_assoc, sum_of-push}

-- what an equation has come to: at each solution of the others it has the same gap
pub record IsReduced (rows : List (Option Equation)) (equation : Equation) (row : List Bool) (sum : Bool) : Type 0 where
  pub within : length row ≤ length rows
  pub same : (x : List Bool) → Solves rows x → gap_of equation x ≡ plus sum (sum_of row x)

pub reduced_start : (rows : List (Option Equation)) (equation : Equation) (row : List Bool)
    → length equation.row ≤ length rows → HasSameSums row equation.row → length row ≤ length equation.row → IsReduced rows equation row equation.sum
reduced_start rows equation row fits same short = record { within = omega arith; same = λ x solves. ap (plus equation.sum) (sym (same.sums x)) }

pub reduced_same : (rows : List (Option Equation)) (equation : Equation) (old row : List Bool) (sum : Bool)
    → IsReduced rows equation old sum → HasSameSums row old → length row ≤ length old → IsReduced rows equation row sum
reduced_same rows equation old row sum left same short = record {
  within = let h : length old ≤ length rows = left.within in omega arith;
  same = λ x solves. left.same x solves ∙ ap (plus sum) (sym (same.sums x));
}

-- the bits of a row but its last
popped : (rows : List (Option Equation)) (equation : Equation) (old row : List Bool) (lead known sum : Bool)
    → old ≡ row ++ lead ∷ [] → lead ≡ known → IsReduced rows equation old sum → IsReduced rows equation (row ++ known ∷ []) sum
popped rows equation old row lead known sum split is left =
    subst (λ (row : List Bool). IsReduced rows equation row sum) (split ∙ ap (λ b. row ++ b ∷ []) is) left

pub shorter : (rows : List (Option Equation)) (equation : Equation) (row : List Bool) (lead sum : Bool)
    → IsReduced rows equation (row ++ lead ∷ []) sum → length row < length rows
shorter rows equation row lead sum left = let h : length (row ++ lead ∷ []) ≤ length rows = left.within in omega (arith, length_push row lead)

pub reduced_zero : (rows : List (Option Equation)) (equation : Equation) (old row : List Bool) (lead sum : Bool)
    → old ≡ row ++ lead ∷ [] → lead ≡ false → IsReduced rows equation old sum → IsReduced rows equation row sum
reduced_zero rows equation old row lead sum split is left = record {
  within = let h : length row < length rows = shorter rows equation row false sum now in omega arith;
  same = λ x solves. now.same x solves ∙ ap (plus sum) (sum_of-push row x false ∙ plus_zero (sum_of row x));
}
  where
    now : IsReduced rows equation (row ++ false ∷ []) sum
    now = popped rows equation old row lead false sum split is left

-- the equation at the row's end
pub leads_there : (rows : List (Option Equation)) (equation : Equation) (old row : List Bool) (lead sum : Bool) (slot found : Option Equation)
    → old ≡ row ++ lead ∷ [] → IsReduced rows equation old sum → slot ≡ get_or rows (length row) slot → slot ≡ found → led_at rows (length row) ≡ found
leads_there rows equation old row lead sum slot found split left read is =
    sym (get_or_read rows (length row) slot (shorter rows equation row lead sum (popped rows equation old row lead lead sum split refl left)) read None) ∙ is

pub reduced_led : (rows : List (Option Equation)) (equation : Equation) (old row next : List Bool) (lead sum : Bool) (e : Equation)
    → old ≡ row ++ lead ∷ [] → lead ≡ true → led_at rows (length row) ≡ Some e → IsSumOf row e.row next → length next ≡ length row
    → IsReduced rows equation old sum → IsReduced rows equation next (plus sum e.sum)
reduced_led rows equation old row next lead sum e split is leads adds long left = record {
  within = let h : length row < length rows = shorter rows equation row true sum now in omega arith;
  same = λ x solves. now.same x solves
      ∙ ap (plus sum) (sum_of-push row x true ∙ ap (plus (sum_of row x)) (solves.bits (length row) e leads))
      ∙ four sum (sum_of row x) e.sum (sum_of e.row x)
      ∙ ap (plus (plus sum e.sum)) (sym (adds.sums x));
}
  where
    now : IsReduced rows equation (row ++ true ∷ []) sum
    now = popped rows equation old row lead true sum split is left

    four : (s a t b : Bool) → plus s (plus a (plus t b)) ≡ plus (plus s t) (plus a b)
    four false false t b = refl
    four false true false b = refl
    four false true true false = refl
    four false true true true = refl
    four true false false b = refl
    four true false true false = refl
    four true false true true = refl
    four true true false false = refl
    four true true false true = refl
    four true true true false = refl
    four true true true true = refl

pub reduced_free : (rows : List (Option Equation)) (equation : Equation) (old row : List Bool) (lead sum : Bool)
    → old ≡ row ++ lead ∷ [] → lead ≡ true → led_at rows (length row) ≡ None → IsReduced rows equation old sum
    → LeadsAnew rows equation (record { row = row; sum = sum })
reduced_free rows equation old row lead sum split is free left = record {
  within = shorter rows equation row true sum now;
  free = free;
  same = λ x solves. now.same x solves
      ∙ ap (plus sum) (sum_of-push row x true)
      ∙ sym (plus_assoc sum (sum_of row x) (bit x (length row)));
}
  where
    now : IsReduced rows equation (row ++ true ∷ []) sum
    now = popped rows equation old row lead true sum split is left

pub reduced_none : (rows : List (Option Equation)) (equation : Equation) (row : List Bool) (sum : Bool)
    → row ≡ [] → IsReduced rows equation row sum → HasGap rows equation sum
reduced_none rows equation row sum empty left = record {
  same = λ x solves. left.same x solves ∙ ap (λ row. plus sum (sum_of row x)) empty ∙ plus_zero sum;
}
