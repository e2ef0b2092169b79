-- Numbers that a function gives, one after another.
use Rattle.std.proofs.Common.{◌≡◌, ℕ, ◌+◌, ◌<◌, List, [], ◌∷◌, length, get_or, ap, ◌∙◌, arith, ◌++◌, inl, inr}
use Rattle.std.proofs.lemmas.Bool.{cases_lt}
use Rattle.std.proofs.lemmas.List.{get_or_push, get_or_append_left}

-- one more number of a list that a function gives
pub given_more :
    (f : ℕ → ℕ) (xs : List ℕ) (n x : ℕ) → length xs ≡ n → x ≡ f n
    → ((j : ℕ) → j < n → get_or xs j 0 ≡ f j)
    → (j : ℕ) → j < n + 1 → get_or (xs ++ x ∷ []) j 0 ≡ f j
given_more f xs n x long is so_far j within = elim (cases_lt j n) [
  | inl before ↦ get_or_append_left xs (x ∷ []) 0 j (omega (arith, long, before)) ∙ so_far j before
  | inr behind ↦
      let here : n ≡ j = omega arith in
      get_or_push xs x 0 j (long ∙ here) ∙ is ∙ ap f here
]
