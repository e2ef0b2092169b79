-- Facts of each element of a list and each later one.
use Rattle.std.proofs.Common.{◌<◌, ℕ, zero, suc, Bool, true, false, List, [], ◌∷◌, ◌++◌, length, filter, cond, AllPairs, Contains, slice_index_or, subst, arith, inl, inr}
use Rattle.std.proofs.lemmas.List.Elements.{Contains-append_left, Contains-append_right, Contains-append_cases}
use Rattle.nf_laws.proofs.Listed.{here, there, has, has_none, was}

abbrev pub Pairs : {A : Type 0} → (A → A → Type 0) → List A → Type 0
Pairs R [] = Unit {0}
Pairs {A} R (x ∷ xs) = ((y : A) → Contains xs y → R x y) × Pairs R xs

rest_pairs : {A : Type 0} (R : A → A → Type 0) (x : A) (xs : List A) → AllPairs R (x ∷ xs) → AllPairs R xs
rest_pairs R x xs all i j d lt within = all (suc i) (suc j) d (omega (arith, lt)) (omega (arith, within))

pub from_all : {A : Type 0} (R : A → A → Type 0) (xs : List A) → AllPairs R xs → Pairs R xs
from_all R [] all = tt
from_all R (x ∷ xs) all = (λ y h. subst (R x) h.2 (all 0 (suc h.0) y (omega arith) (let lt = h.1 in omega arith)), from_all R xs (rest_pairs R x xs all))

pub is_in : {A : Type 0} (xs : List A) (k : ℕ) (d : A) → k < length xs → Contains xs (slice_index_or xs k d)
is_in [] k d lt = absurd (omega (arith, lt))
is_in (x ∷ xs) zero d lt = here x xs
is_in (x ∷ xs) (suc k) d lt = there x xs (slice_index_or xs k d) (is_in xs k d (omega (arith, lt)))

pub to_all : {A : Type 0} (R : A → A → Type 0) (xs : List A) → Pairs R xs → AllPairs R xs
to_all R [] h i j d lt within = absurd (omega (arith, within))
to_all R (x ∷ xs) h zero zero d lt within = absurd (omega (arith, lt))
to_all R (x ∷ xs) h zero (suc j) d lt within = h.0 (slice_index_or xs j d) (is_in xs j d (omega (arith, within)))
to_all R (x ∷ xs) h (suc i) zero d lt within = absurd (omega (arith, lt))
to_all R (x ∷ xs) h (suc i) (suc j) d lt within = to_all R xs h.1 i j d (omega (arith, lt)) (omega (arith, within))

pub left : {A : Type 0} (R : A → A → Type 0) (xs ys : List A) → Pairs R (xs ++ ys) → Pairs R xs
left R [] ys h = tt
left R (x ∷ xs) ys h = (λ y i. h.0 y (Contains-append_left xs ys y i), left R xs ys h.1)

pub right : {A : Type 0} (R : A → A → Type 0) (xs ys : List A) → Pairs R (xs ++ ys) → Pairs R ys
right R [] ys h = h
right R (x ∷ xs) ys h = right R xs ys h.1

pub across : {A : Type 0} (R : A → A → Type 0) (xs ys : List A) (x y : A) → Pairs R (xs ++ ys) → Contains xs x → Contains ys y → R x y
across R [] ys x y h i j = absurd (has_none x i)
across R (z ∷ xs) ys x y h i j = elim (has z xs x i) [
  | inl e ↦ subst (λ w. R w y) e (h.0 y (Contains-append_right xs ys y j))
  | inr k ↦ across R xs ys x y h.1 k j
]

pub joined : {A : Type 0} (R : A → A → Type 0) (xs ys : List A) → Pairs R xs → Pairs R ys → ((x y : A) → Contains xs x → Contains ys y → R x y) → Pairs R (xs ++ ys)
joined R [] ys h k r = k
joined R (x ∷ xs) ys h k r =
    (λ y i. elim (Contains-append_cases xs ys y i) [ inl j ↦ h.0 y j | inr j ↦ r x y (here x xs) j ], joined R xs ys h.1 k (λ a b i j. r a b (there x xs a i) j))

pub filtered : {A : Type 0} (R : A → A → Type 0) (test : A → Bool) (xs : List A) → Pairs R xs → Pairs R (filter test xs)
filtered R test [] h = tt
filtered R test (x ∷ xs) h = split (test x) (λ y i. h.0 y (was test xs y i)) (filtered R test xs h.1)
  where
    split : (b : Bool) → ((y : _) → Contains (filter test xs) y → R x y) → Pairs R (filter test xs) → Pairs R (cond b (x ∷ filter test xs) (filter test xs))
    split true f r = (f, r)
    split false f r = r
