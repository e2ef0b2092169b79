-- What stands in a list, each once.
use Rattle.std.proofs.Common.{◌≡◌, List, [], ◌∷◌, ◌++◌, Bool, true, false, not, ◌||◌, if◌then◌else◌, filter, Contains, refl, ap, ◌∙◌, subst, inl, inr, append-nil}
use Rattle.std.proofs.lemmas.Bool.{cases_Bool}
use Rattle.std.proofs.lemmas.List.Elements.{filter-append}
use Rattle.nf_laws.proofs.Listed.{here, there, has, kept, was}
use Rattle.nf_sites.proofs.Lists.{passes}
use Rattle.path_walk.specs.Once.{EachOnce}
use Rattle.shard_rules.specs.Once.{is_among, with_one, each_once}

-- a test that tells things apart
abbrev pub Tells : {A : Type 0} → (A → A → Bool) → Type 0
Tells {A} same = (a b : A) → same a b ≡ true → a ≡ b

-- those that are not one
abbrev pub others : {A : Type 0} → (A → A → Bool) → A → List A → List A
others same x xs = filter (λ y. not (same x y)) xs

-- what is among some is among the others too, unless it is that one
among_others : {A : Type 0} (same : A → A → Bool) → Tells same → (x p : A) → same x p ≡ false → (xs : List A) → is_among same p (others same x xs) ≡ is_among same p xs
among_others same tells x p h [] = refl
among_others {A} same tells x p h (q ∷ xs) = elim (cases_Bool (same x q)) [
  | inl e ↦
      let not_p : same q p ≡ false = subst (λ (y : A). same y p ≡ false) (tells x q e) h in
      rw (e, not_p) (among_others same tells x p h xs)
  | inr e ↦ rw e (ap (λ b. same q p || b) (among_others same tells x p h xs))
]

dropped : {A : Type 0} (same : A → A → Bool) (x p : A) (xs : List A) → same x p ≡ true → (b : Bool) → others same x (if b then xs else xs ++ p ∷ []) ≡ others same x xs
dropped same x p xs h true = refl
dropped same x p xs h false = filter-append (λ y. not (same x y)) xs (p ∷ []) ∙ rw h (append-nil (others same x xs))

put_last : {A : Type 0} (same : A → A → Bool) (x p : A) (xs : List A) → same x p ≡ false → (b : Bool) → (x ∷ others same x (if b then xs else xs ++ p ∷ [])) ≡ (if b then x ∷ others same x xs else x ∷ (others same x xs ++ p ∷ []))
put_last same x p xs h true = refl
put_last same x p xs h false = ap (λ ys. x ∷ ys) (filter-append (λ y. not (same x y)) xs (p ∷ []) ∙ rw h refl)

-- one more at the end
pub one_more : {A : Type 0} (same : A → A → Bool) → Tells same → (xs : List A) (p : A) → each_once same (xs ++ p ∷ []) ≡ with_one same p (each_once same xs)
one_more same tells [] p = refl
one_more same tells (x ∷ xs) p = elim (cases_Bool (same x p)) [
  | inl e ↦ rw (e, one_more same tells xs p) (ap (λ ys. x ∷ ys) (dropped same x p (each_once same xs) e (is_among same p (each_once same xs))))
  | inr e ↦ rw (e, one_more same tells xs p, among_others same tells x p e (each_once same xs)) (put_last same x p (each_once same xs) e (is_among same p (each_once same xs)))
]

-- each is one of the list
pub once_from : {A : Type 0} (same : A → A → Bool) (xs : List A) (p : A) → Contains (each_once same xs) p → Contains xs p
once_from same [] p h = h
once_from {A} same (x ∷ xs) p h = elim (has x (others same x (each_once same xs)) p h) [
  | inl e ↦ subst (λ (q : A). Contains (x ∷ xs) q) e (here x xs)
  | inr i ↦ there x xs p (once_from same xs p (was (λ y. not (same x y)) (each_once same xs) p i))
]

-- and none of the list is left out
pub once_to : {A : Type 0} (same : A → A → Bool) → Tells same → (xs : List A) (p : A) → Contains xs p → Contains (each_once same xs) p
once_to same tells [] p h = h
once_to {A} same tells (x ∷ xs) p h = elim (has x xs p h) [
  | inl e ↦ subst (λ (q : A). Contains (each_once same (x ∷ xs)) q) e (here x (others same x (each_once same xs)))
  | inr i ↦ elim (cases_Bool (same x p)) [
    | inl e ↦ subst (λ (q : A). Contains (each_once same (x ∷ xs)) q) (tells x p e) (here x (others same x (each_once same xs)))
    | inr e ↦ there x (others same x (each_once same xs)) p (kept (λ y. not (same x y)) (each_once same xs) p (once_to same tells xs p i) (ap not e))
  ]
]

once_filter : {A : Type 0} (test : A → Bool) (xs : List A) → EachOnce xs → EachOnce (filter test xs)
once_filter test [] h = h
once_filter test (x ∷ xs) h = elim (cases_Bool (test x)) [
  | inl e ↦ rw e (λ i. h.0 (was test xs x i), once_filter test xs h.1)
  | inr e ↦ rw e (once_filter test xs h.1)
]

pub stand_once : {A : Type 0} (same : A → A → Bool) → ((a : A) → same a a ≡ true) → (xs : List A) → EachOnce (each_once same xs)
stand_once same itself [] = tt
stand_once same itself (x ∷ xs) = (
  λ i. (let bad : not (same x x) ≡ true = passes (λ y. not (same x y)) (each_once same xs) x i in let worse : false ≡ true = rw (itself x) at bad in cc),
  once_filter (λ y. not (same x y)) (each_once same xs) (stand_once same itself xs),
)
