-- A list that is seen by index: a place changed, and what one owner sees of it.
use Rattle.std.proofs.Common.{◌≡◌, ◌≢◌, ℕ, zero, suc, Bool, true, false, List, [], ◌∷◌, length, map, Option, Some, None, slice_get, slice_set, if◌then◌else◌, refl, ap, arith, ◌⊎◌, inl, inr}
use Rattle.std.specs.Option.{option_map}
use Rattle.std.proofs.lemmas.Option.{same_Some}
use Rattle.nf_base.specs.declared.state.Entry.{Entry}
use Rattle.nf_base.specs.Shares.{mix, none_vacant}

-- what stands where something was set
pub got_set : {A : Type 0} (xs : List A) (i j : ℕ) (y z : A) → slice_get (slice_set xs i y) j ≡ Some z → ((j ≡ i) × (y ≡ z)) ⊎ ((j ≢ i) × (slice_get xs j ≡ Some z))
got_set [] i j y z e = inr ((λ _. cc), e)
got_set (x ∷ xs) zero zero y z e = inl (refl, same_Some y z e)
got_set (x ∷ xs) zero (suc j) y z e = inr ((λ q. cc), e)
got_set (x ∷ xs) (suc i) zero y z e = inr ((λ q. cc), e)
got_set (x ∷ xs) (suc i) (suc j) y z e = elim (got_set xs i j y z e) [
  | inl h ↦ inl (ap suc h.0, h.1)
  | inr h ↦ inr ((λ q. h.0 (omega arith)), h.1)
]

pub set_own : {A : Type 0} (own : ℕ → Bool) (d : ℕ → A) (xs : List A) (i : ℕ) (y : A) → own i ≡ true → mix own d (slice_set xs i y) ≡ slice_set (mix own d xs) i y
set_own own d [] i y o = refl
set_own own d (x ∷ xs) zero y o = rw o refl
set_own own d (x ∷ xs) (suc i) y o = ap (λ zs. (if own 0 then x else d 0) ∷ zs) (set_own (λ k. own (suc k)) (λ k. d (suc k)) xs i y o)

pub set_other : {A : Type 0} (own : ℕ → Bool) (d : ℕ → A) (xs : List A) (i : ℕ) (y : A) → own i ≡ false → mix own d (slice_set xs i y) ≡ mix own d xs
set_other own d [] i y o = refl
set_other own d (x ∷ xs) zero y o = rw o refl
set_other own d (x ∷ xs) (suc i) y o = ap (λ zs. (if own 0 then x else d 0) ∷ zs) (set_other (λ k. own (suc k)) (λ k. d (suc k)) xs i y o)

pub get_own : {A : Type 0} (own : ℕ → Bool) (d : ℕ → A) (xs : List A) (i : ℕ) → own i ≡ true → slice_get (mix own d xs) i ≡ slice_get xs i
get_own own d [] i o = refl
get_own own d (x ∷ xs) zero o = rw o refl
get_own own d (x ∷ xs) (suc i) o = get_own (λ k. own (suc k)) (λ k. d (suc k)) xs i o

pub get_other : {A : Type 0} (own : ℕ → Bool) (d : ℕ → A) (xs : List A) (i : ℕ) → own i ≡ false → slice_get (mix own d xs) i ≡ option_map (λ (x : A). d i) (slice_get xs i)
get_other own d [] i o = refl
get_other own d (x ∷ xs) zero o = rw o refl
get_other own d (x ∷ xs) (suc i) o = get_other (λ k. own (suc k)) (λ k. d (suc k)) xs i o

pub mix_length : {A : Type 0} (own : ℕ → Bool) (d : ℕ → A) (xs : List A) → length (mix own d xs) ≡ length xs
mix_length own d [] = refl
mix_length own d (x ∷ xs) = ap suc (mix_length (λ k. own (suc k)) (λ k. d (suc k)) xs)

at_if : {A B : Type 0} (f : A → B) (b : Bool) (x y : A) → f (if b then x else y) ≡ (if b then f x else f y)
at_if f true x y = refl
at_if f false x y = refl

-- a change of each element that leaves the opening ones
pub mix_map : {A : Type 0} (f : A → A) (own : ℕ → Bool) (d : ℕ → A) (xs : List A) → ((i : ℕ) → f (d i) ≡ d i) → map f (mix own d xs) ≡ mix own d (map f xs)
mix_map f own d [] same = refl
mix_map f own d (x ∷ xs) same = rw (at_if f (own 0) x (d 0), same 0) (ap (λ zs. (if own 0 then f x else d 0) ∷ zs) (mix_map f (λ k. own (suc k)) (λ k. d (suc k)) xs (λ i. same (suc i))))

if_twice : {A : Type 0} (b : Bool) (x y : A) → (if b then (if b then x else y) else y) ≡ (if b then x else y)
if_twice true x y = refl
if_twice false x y = refl

-- what one owner sees again is the same
pub mix_twice : {A : Type 0} (own : ℕ → Bool) (d : ℕ → A) (xs : List A) → mix own d (mix own d xs) ≡ mix own d xs
mix_twice own d [] = refl
mix_twice own d (x ∷ xs) = rw (if_twice (own 0) x (d 0)) (ap (λ zs. (if own 0 then x else d 0) ∷ zs) (mix_twice (λ k. own (suc k)) (λ k. d (suc k)) xs))

head_free : (own : ℕ → Bool) (b : Bool) (s : Option Entry) (xs ys : List (Option Entry)) → own 0 ≡ b → none_vacant (λ i. own (suc i)) xs ≡ none_vacant (λ i. own (suc i)) ys → none_vacant own ((if b then s else None) ∷ xs) ≡ none_vacant own (s ∷ ys)
head_free own true None xs ys o e = rw o refl
head_free own true (Some entry) xs ys o e = e
head_free own false None xs ys o e = rw o e
head_free own false (Some entry) xs ys o e = rw o e

-- a share has a free index in what it sees exactly where it has one in the whole
pub free_own : (own : ℕ → Bool) (slots : List (Option Entry)) → none_vacant own (mix own (λ _. None) slots) ≡ none_vacant own slots
free_own own [] = refl
free_own own (s ∷ slots) = head_free own (own 0) s _ slots refl (free_own (λ i. own (suc i)) slots)
