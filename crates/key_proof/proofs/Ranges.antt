-- What holds at some number of a range, or at all of them.
use Rattle.std.proofs.Common.{◌≡◌, ◌≢◌, ℕ, zero, suc, ◌+◌, ◌<◌, ◌≤◌, ◌&&◌, ◌||◌, refl, sym, ap, ◌∙◌, inl, inr, true, false, Bool, List, [], ◌∷◌, length, get_or, arith}
use Rattle.std.specs.List.{list_any, list_all, range_with_len}
use Rattle.std.proofs.lemmas.Bool.{and_parts, false≢true, cases_eq, cases_Bool}

-- what holds of all of a range's numbers holds of each
pub all_at : (p : ℕ → Bool) (from count m : ℕ) → list_all p (range_with_len from count) ≡ true → from ≤ m → m < from + count → p m ≡ true
all_at p from zero m all least most = absurd (omega (arith, least, most))
all_at p from (suc count) m all least most =
    let parts = and_parts (p from) (list_all p (range_with_len (from + 1) count)) all in
    elim (cases_eq m from) [
      | inl same ↦ ap p same ∙ parts.0
      | inr later ↦ all_at p (from + 1) count m parts.1 (omega (arith, least, later)) (omega (arith, most))
    ]

-- and what holds of each holds of all
pub all_good : (p : ℕ → Bool) (from count : ℕ) → ((m : ℕ) → from ≤ m → m < from + count → p m ≡ true) → true ≡ list_all p (range_with_len from count)
all_good p from zero each = refl
all_good p from (suc count) each =
    all_good p (from + 1) count (λ m least most. each m (omega (arith, least)) (omega (arith, most)))
    ∙ sym (ap (λ b. b && list_all p (range_with_len (from + 1) count)) (each from (omega arith) (omega arith)))

pub all_bad : (p : ℕ → Bool) (from count m : ℕ) → from ≤ m → m < from + count → p m ≡ false → false ≡ list_all p (range_with_len from count)
all_bad p from count m least most bad = elim (cases_Bool (list_all p (range_with_len from count))) [
  | inl good ↦ absurd (false≢true (sym bad ∙ all_at p from count m good least most))
  | inr not ↦ sym not
]

pub any_none : (p : ℕ → Bool) (from count : ℕ) → ((m : ℕ) → from ≤ m → m < from + count → p m ≡ false) → false ≡ list_any p (range_with_len from count)
any_none p from zero each = refl
any_none p from (suc count) each =
    any_none p (from + 1) count (λ m least most. each m (omega (arith, least)) (omega (arith, most)))
    ∙ sym (ap (λ b. b || list_any p (range_with_len (from + 1) count)) (each from (omega arith) (omega arith)))

pub none_at : (p : ℕ → Bool) (from count m : ℕ) → list_any p (range_with_len from count) ≡ false → from ≤ m → m < from + count → p m ≡ false
none_at p from zero m none least most = absurd (omega (arith, least, most))
none_at p from (suc count) m none least most = elim (cases_Bool (p from)) [
  | inl is ↦ absurd (false≢true (sym none ∙ ap (λ b. b || list_any p (range_with_len (from + 1) count)) is))
  | inr not ↦ elim (cases_eq m from) [
    | inl same ↦ ap p same ∙ not
    | inr later ↦ none_at p (from + 1) count m (sym (ap (λ b. b || list_any p (range_with_len (from + 1) count)) not) ∙ none) (omega (arith, least, later)) (omega (arith, most))
  ]
]

pub any_here : (p : ℕ → Bool) (from count m : ℕ) → from ≤ m → m < from + count → p m ≡ true → true ≡ list_any p (range_with_len from count)
any_here p from count m least most is = elim (cases_Bool (list_any p (range_with_len from count))) [
  | inl some ↦ sym some
  | inr none ↦ absurd (false≢true (sym (none_at p from count m none least most) ∙ is))
]

-- one number more
pub one_more : (p : ℕ → Bool) (b : Bool) (from m : ℕ) → ((j : ℕ) → from ≤ j → j < m → p j ≡ b) → p m ≡ b → (j : ℕ) → from ≤ j → j < m + 1 → p j ≡ b
one_more p b from m before here j least below = elim (cases_eq j m) [
  | inl same ↦ ap p same ∙ here
  | inr other ↦ before j least (omega (arith, below, other))
]

-- what is so of no item of a list, and of one
pub none_of : {X : Type 0} (p : X → Bool) (xs : List X) → ((k : ℕ) (d : X) → k < length xs → p (get_or xs k d) ≡ false) → false ≡ list_any p xs
none_of p [] each = refl
none_of p (x ∷ xs) each = none_of p xs (λ k d below. each (suc k) d (omega (arith, below))) ∙ sym (ap (λ b. b || list_any p xs) (each 0 x (omega arith)))

pub some_of : {X : Type 0} (p : X → Bool) (xs : List X) (k : ℕ) (d : X) → k < length xs → p (get_or xs k d) ≡ true → true ≡ list_any p xs
some_of p [] k d below is = absurd (omega (arith, below))
some_of p (x ∷ xs) zero d below is = sym (ap (λ b. b || list_any p xs) is)
some_of p (x ∷ xs) (suc k) d below is = elim (cases_Bool (p x)) [
  | inl here ↦ sym (ap (λ b. b || list_any p xs) here)
  | inr not ↦ some_of p xs k d (omega (arith, below)) is ∙ sym (ap (λ b. b || list_any p xs) not)
]

pub none_more : {X : Type 0} (p : X → Bool) (xs : List X) (i : ℕ) → ((k : ℕ) (d : X) → k < i → p (get_or xs k d) ≡ false) → ((d : X) → p (get_or xs i d) ≡ false) → (k : ℕ) (d : X) → k < i + 1 → p (get_or xs k d) ≡ false
none_more p xs i before here k d below = elim (cases_eq k i) [
  | inl same ↦ ap (λ j. p (get_or xs j d)) same ∙ here d
  | inr other ↦ before k d (omega (arith, below, other))
]
