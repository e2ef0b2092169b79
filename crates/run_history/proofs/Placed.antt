-- Texts that are put behind one another, and decimals by two digits at a time.
use Rattle.std.proofs.Common.{◌≡◌, ℕ, zero, suc, ◌+◌, ◌-◌, ◌*◌, ◌/◌, ◌%◌, ◌^◌, ◌<◌, ◌≤◌, Bool, true, ◌&&◌, T, eqb, List, [], ◌∷◌, ◌++◌, length, get_or, set, take, refl, ap, ◌∙◌, subst, inl, inr, arith, eq-zero-or-pos, eqb→eq, append_assoc, length-append, length-set}
use Rattle.std.proofs.lemmas.Fmt.{decimal_digit, decimal_step}
use Rattle.std.proofs.lemmas.Grind.{take-set_at}
use Rattle.std.specs.Fmt.{decimal}
use lib.Ieee.Fits.{and_l, and_r}
use Rattle.run_history.specs.declared.room.TheConstants.{PAIRS}
use Rattle.run_history.specs.Room.{Puts, pair, four}

-- ---- texts

pub puts_same : (xs ys old : List ℕ) (at : ℕ) (new : List ℕ) (end : ℕ) → xs ≡ ys → Puts xs old at new end → Puts ys old at new end
puts_same xs ys old at new end e = subst (λ (ts : List ℕ). Puts ts old at new end) e

pub puts_both : (xs ys old : List ℕ) (at : ℕ) (mid : List ℕ) (middle : ℕ) (new : List ℕ) (end : ℕ) → Puts xs old at mid middle → Puts ys mid middle new end → Puts (xs ++ ys) old at new end
puts_both xs ys old at mid middle new end h k = record {
  ends = omega (arith, h.ends, k.ends, length-append xs ys);
  front = k.front ∙ ap (λ (t : List ℕ). t ++ ys) h.front ∙ append_assoc (take at old) xs ys;
}

pub puts_two : (old : List ℕ) (at a b : ℕ) → at + 2 ≤ length old → Puts (a ∷ b ∷ []) old at (set (set old at a) (at + 1) b) (at + 2)
puts_two old at a b h = record {
  ends = omega arith;
  front = take-set_at (set old at a) (at + 1) (at + 2) b (omega arith) (omega (arith, length-set old at a))
      ∙ ap (λ (t : List ℕ). t ++ (b ∷ [])) (take-set_at old at (at + 1) a refl (omega arith))
      ∙ append_assoc (take at old) (a ∷ []) (b ∷ []);
}

-- ---- two digits of the table

abbrev are_pairs : ℕ → Bool
are_pairs zero = true
are_pairs (suc p) = (eqb (get_or PAIRS (p * 2) 0) (48 + p / 10) && eqb (get_or PAIRS (p * 2 + 1) 0) (48 + p % 10)) && are_pairs p

below : (n p : ℕ) → T (are_pairs n) → p < n → (get_or PAIRS (p * 2) 0 ≡ 48 + p / 10) × (get_or PAIRS (p * 2 + 1) 0 ≡ 48 + p % 10)
below zero p t h = absurd (omega arith)
below (suc n) p t h =
    elim (eq-zero-or-pos (n - p)) [
      | inl z ↦ let e : p ≡ n = omega arith in let a = and_l _ (are_pairs n) t in rw e (eqb→eq _ _ (and_l _ _ a), eqb→eq _ _ (and_r _ _ a))
      | inr g ↦ below n p (and_r _ (are_pairs n) t) (omega arith)
    ]

pub pair_at : (p : ℕ) → p < 100 → (get_or PAIRS (p * 2) 0 ≡ 48 + p / 10) × (get_or PAIRS (p * 2 + 1) 0 ≡ 48 + p % 10)
pair_at p h = below 100 p tt h

-- ---- decimals

pub decimal_two : (n : ℕ) → 10 ≤ n → n < 100 → pair n ≡ decimal n
decimal_two n lo hi = rw (decimal_step n lo (omega arith), decimal_digit (n / 10) (omega arith)) refl

-- a decimal is that of its hundreds and two digits
pub decimal_pair : (n : ℕ) → 100 ≤ n → n < 2 ^ 64 → decimal (n / 100) ++ pair (n % 100) ≡ decimal n
decimal_pair n lo hi =
    let a : n / 10 / 10 ≡ n / 100 = omega arith in
    let b : n / 10 % 10 ≡ n % 100 / 10 = omega arith in
    let c : n % 10 ≡ n % 100 % 10 = omega arith in
    rw (decimal_step n (omega arith) hi, decimal_step (n / 10) (omega arith) (omega arith), append_assoc, a, b, ← c) refl

-- and that of its ten thousands and four digits
pub decimal_four : (n : ℕ) → 10000 ≤ n → n < 2 ^ 64 → decimal (n / 10000) ++ four (n % 10000) ≡ decimal n
decimal_four n lo hi =
    let a : n / 100 / 100 ≡ n / 10000 = omega arith in
    let b : n / 100 % 100 ≡ n % 10000 / 100 = omega arith in
    let c : n % 10000 % 100 ≡ n % 100 = omega arith in
    rw (← decimal_pair n (omega arith) hi, ← decimal_pair (n / 100) (omega arith) (omega arith), append_assoc, a, b, c) refl
