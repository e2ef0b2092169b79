-- Where a separator doesn't stand.
use Rattle.std.proofs.Common.{◌≡◌, ℕ, ◌+◌, ◌%◌, ◌^◌, ◌≤◌, ◌<◌, Bool, true, false, not, ◌&&◌, eqb, List, [], ◌∷◌, ◌++◌, arith}
use Rattle.std.specs.Prelude.{decimal}
use Rattle.std.specs.List.{AllByRecursion}
use Rattle.std.proofs.lemmas.Bool.{eqb-false, not-true, and_parts}
use Rattle.std.proofs.lemmas.Fmt.{decimal_by_steps}
use Rattle.certificate_text.specs.Pieces.{IsFree}

pub free_both : (sep : ℕ) (xs ys : List ℕ) → IsFree sep xs → IsFree sep ys → IsFree sep (xs ++ ys)
free_both sep [] ys h k = k
free_both sep (x ∷ xs) ys h k = (h.0, free_both sep xs ys h.1 k)

abbrev AreDigits : List ℕ → Type 0
AreDigits xs = AllByRecursion (λ (c : ℕ). (48 ≤ c) × (c < 58)) xs

digits_push : (xs : List ℕ) (c : ℕ) → AreDigits xs → 48 ≤ c → c < 58 → AreDigits (xs ++ c ∷ [])
digits_push [] c h a b = ((a, b), tt)
digits_push (x ∷ xs) c h a b = (h.0, digits_push xs c h.1 a b)

digits_of : (n : ℕ) → n < 2 ^ 64 → AreDigits (decimal n)
digits_of n lt = decimal_by_steps (λ n ds. AreDigits ds) (λ n small. ((omega arith, omega arith), tt)) (λ n ds ge h. digits_push ds (48 + n % 10) h (omega arith) (omega arith)) n lt

digits_free : (sep : ℕ) (xs : List ℕ) → sep < 48 → AreDigits xs → IsFree sep xs
digits_free sep [] lt h = tt
digits_free sep (x ∷ xs) lt h = ((λ e. absurd (omega (arith, h.0.0))), digits_free sep xs lt h.1)

-- no separator below the digits stands in a decimal
pub number_free : (sep n : ℕ) → sep < 48 → n < 2 ^ 32 → IsFree sep (decimal n)
number_free sep n lt small = digits_free sep (decimal n) lt (digits_of n (omega arith))

-- nor in a word that is written out
abbrev pub lacks : ℕ → List ℕ → Bool
lacks sep [] = true
lacks sep (c ∷ cs) = not (eqb c sep) && lacks sep cs

pub free_by_test : (sep : ℕ) (xs : List ℕ) → lacks sep xs ≡ true → IsFree sep xs
free_by_test sep [] h = tt
free_by_test sep (c ∷ cs) h =
    let both = and_parts (not (eqb c sep)) (lacks sep cs) h in
    (eqb-false c sep (not-true (eqb c sep) both.0), free_by_test sep cs both.1)
