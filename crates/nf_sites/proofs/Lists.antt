-- What lists that are tested and mapped have.
use Rattle.std.proofs.Common.{◌≡◌, ◌<◌, ℕ, zero, suc, ◌+◌, Bool, true, false, ◌&&◌, ◌||◌, List, [], ◌∷◌, map, length, filter, cond, Contains, Some, slice_get, refl, ap, sym, ◌∙◌, subst, arith, inl, inr}
use Rattle.std.specs.List.{list_any, list_all, range_with_len}
use Rattle.std.proofs.lemmas.Bool.{and_parts}
use Rattle.nf_laws.proofs.Listed.{here, there, has, has_none}

pub passes : {A : Type 0} (test : A → Bool) (xs : List A) (x : A) → Contains (filter test xs) x → test x ≡ true
passes test [] x h = absurd (has_none x h)
passes test (y ∷ xs) x h = split (test y) refl h (passes test xs x)
  where
    split : (b : Bool) → test y ≡ b → Contains (cond b (y ∷ filter test xs) (filter test xs)) x → (Contains (filter test xs) x → test x ≡ true) → test x ≡ true
    split true e i rest = elim (has y (filter test xs) x i) [ inl q ↦ sym (ap test q) ∙ e | inr j ↦ rest j ]
    split false e i rest = rest i

or_left : (a b : Bool) → a ≡ true → (a || b) ≡ true
or_left true b e = refl
or_left false b e = cc

or_right : (a b : Bool) → b ≡ true → (a || b) ≡ true
or_right true b e = refl
or_right false b e = e

pub any_true : {A : Type 0} (test : A → Bool) (xs : List A) (x : A) → Contains xs x → test x ≡ true → list_any test xs ≡ true
any_true test [] x h e = absurd (has_none x h)
any_true test (y ∷ xs) x h e = elim (has y xs x h) [
  | inl q ↦ or_left (test y) (list_any test xs) (ap test q ∙ e)
  | inr i ↦ or_right (test y) (list_any test xs) (any_true test xs x i e)
]

pub any_has : {A : Type 0} (test : A → Bool) (xs : List A) → list_any test xs ≡ true → (x : A) × Contains xs x × (test x ≡ true)
any_has test [] e = cc
any_has {A} test (y ∷ xs) e = split (test y) refl e (any_has test xs)
  where
    split : (b : Bool) → test y ≡ b → (b || list_any test xs) ≡ true → (list_any test xs ≡ true → (x : A) × Contains xs x × (test x ≡ true)) → (x : A) × Contains (y ∷ xs) x × (test x ≡ true)
    split true q e rest = (y, here y xs, q)
    split false q e rest = let w = rest e in (w.0, there y xs w.0 w.1, w.2)

pub all_has : {A : Type 0} (test : A → Bool) (xs : List A) (x : A) → list_all test xs ≡ true → Contains xs x → test x ≡ true
all_has test [] x e h = absurd (has_none x h)
all_has test (y ∷ xs) x e h = elim (has y xs x h) [
  | inl q ↦ sym (ap test q) ∙ (and_parts (test y) (list_all test xs) e).0
  | inr i ↦ all_has test xs x (and_parts (test y) (list_all test xs) e).1 i
]

both : (a b : Bool) → a ≡ true → b ≡ true → (a && b) ≡ true
both true b e q = q
both false b e q = cc

pub all_true : {A : Type 0} (test : A → Bool) (xs : List A) → ((x : A) → Contains xs x → test x ≡ true) → list_all test xs ≡ true
all_true test [] h = refl
all_true test (y ∷ xs) h = both (test y) (list_all test xs) (h y (here y xs)) (all_true test xs (λ x i. h x (there y xs x i)))

pub from_map : {A B : Type 0} (f : A → B) (xs : List A) (y : B) → Contains (map f xs) y → (x : A) × Contains xs x × (f x ≡ y)
from_map f [] y h = absurd (has_none y h)
from_map f (x ∷ xs) y h = elim (has (f x) (map f xs) y h) [
  | inl e ↦ (x, here x xs, e)
  | inr i ↦ let w = from_map f xs y i in (w.0, there x xs w.0 w.1, w.2)
]

pub to_map : {A B : Type 0} (f : A → B) (xs : List A) (x : A) → Contains xs x → Contains (map f xs) (f x)
to_map f [] x h = absurd (has_none x h)
to_map f (y ∷ xs) x h = elim (has y xs x h) [
  | inl q ↦ subst (λ z. Contains (f y ∷ map f xs) (f z)) q (here (f y) (map f xs))
  | inr i ↦ there (f y) (map f xs) (f x) (to_map f xs x i)
]

range_from : (a n k : ℕ) → k < n → Contains (range_with_len a n) (a + k)
range_from a zero k lt = absurd (omega (arith, lt))
range_from a (suc n) zero lt = let e : a ≡ a + 0 = omega arith in subst (λ m. Contains (range_with_len a (suc n)) m) e (here a (range_with_len (a + 1) n))
range_from a (suc n) (suc k) lt =
    let e : a + 1 + k ≡ a + suc k = omega arith in
    there a (range_with_len (a + 1) n) (a + suc k) (subst (λ m. Contains (range_with_len (a + 1) n) m) e (range_from (a + 1) n k (omega (arith, lt))))

pub in_range : (n k : ℕ) → k < n → Contains (range_with_len 0 n) k
in_range n k lt = let e : 0 + k ≡ k = omega arith in subst (λ m. Contains (range_with_len 0 n) m) e (range_from 0 n k lt)

pub within : {A : Type 0} (xs : List A) (k : ℕ) (x : A) → slice_get xs k ≡ Some x → k < length xs
within [] k x e = cc
within (y ∷ xs) zero x e = omega arith
within (y ∷ xs) (suc k) x e = let lt = within xs k x e in omega (arith, lt)
