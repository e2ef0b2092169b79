-- Folding a sum to 16 bits.
use Rattle.std.proofs.Common.{◌≡◌, ℕ, zero, suc, ◌<◌, ◌≤◌, ◌^◌, inl, inr, refl, ◌∙◌, arith}
use Rattle.std.proofs.lemmas.Bool.{cases_lt, lt-ltb, le-ltb}
use Rattle.frame_ip.specs.Checksum.{halves, folded, fold}

fits : (most sum : ℕ) → sum < 65536 → folded most sum ≡ sum
unfolding folded
fits zero sum lt = refl
fits (suc most) sum lt = rw (lt-ltb sum 65536 lt) refl

pub fold_small : (sum : ℕ) → sum < 65536 → fold sum ≡ sum
fold_small sum lt = fits sum sum lt

goes_on : (most sum : ℕ) → 65536 ≤ sum → folded (suc most) sum ≡ folded most (halves sum)
unfolding folded
goes_on most sum le = rw (le-ltb sum 65536 le) refl

two : (most sum : ℕ) → 2 ≤ most → sum < 2 ^ 24 → folded most sum ≡ halves (halves sum)
two zero sum le lt = absurd (omega arith)
two (suc zero) sum le lt = absurd (omega arith)
two (suc (suc most)) sum le lt = elim (cases_lt sum 65536) [
  | inl small ↦ fits (suc (suc most)) sum small ∙ omega arith
  | inr large ↦ elim (cases_lt (halves sum) 65536) [
    | inl small ↦ goes_on (suc most) sum large ∙ fits (suc most) (halves sum) small ∙ omega arith
    | inr more ↦ goes_on (suc most) sum large ∙ goes_on most (halves sum) more ∙ fits most (halves (halves sum)) (omega arith)
  ]
]

pub twice : (sum : ℕ) → sum < 2 ^ 24 → fold sum ≡ halves (halves sum)
twice sum lt = elim (cases_lt sum 65536) [
  | inl small ↦ fits sum sum small ∙ omega arith
  | inr large ↦ two sum sum (omega arith) lt
]
