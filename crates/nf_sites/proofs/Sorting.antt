-- Values in the order of their reads are the same values, and the cells of each stand before those of the next.
use Rattle.std.proofs.Common.{◌≡◌, ◌<◌, ◌≤◌, ◌⊎◌, ℕ, suc, Bool, true, false, List, [], ◌∷◌, ◌++◌, Contains, Option, Some, None, slice_get, if◌then◌else◌, refl, sym, subst, arith, inl, inr, ltb-true, ltb-false}
use Rattle.std.specs.List.{flat_map}
use Rattle.std.proofs.lemmas.List.Elements.{Contains-append_left, Contains-append_right, Contains-append_cases}
use Rattle.nf_base.specs.Text.{Given}
use Rattle.nf_base.specs.TextPlaces.{expression_places}
use Rattle.nf_sites.specs.ReadOrder.{first_read, begins_before, put_in, by_first_read}
use Rattle.nf_sites.specs.TextOrder.{StandBefore, StandApart}
use Rattle.nf_laws.proofs.Listed.{here, there, has, has_none}
use Rattle.nf_sites.proofs.Pairs.{Pairs}

-- what one value has, and others have, they have together
pub put_to : {A : Type 0} (f : Given → List A) (g : Given) (hs : List Given) (x : A) → Contains (f g) x ⊎ Contains (flat_map f hs) x → Contains (flat_map f (put_in g hs)) x
put_to f g [] x (inl i) = Contains-append_left (f g) [] x i
put_to f g [] x (inr i) = absurd (has_none x i)
put_to {A} f g (h ∷ hs) x i = split (begins_before (first_read h) (first_read g)) i (put_to f g hs x)
  where
    split : (b : Bool) → Contains (f g) x ⊎ Contains (f h ++ flat_map f hs) x → (Contains (f g) x ⊎ Contains (flat_map f hs) x → Contains (flat_map f (put_in g hs)) x) → Contains (flat_map f (if b then h ∷ put_in g hs else g ∷ h ∷ hs)) x
    split true (inl j) rest = Contains-append_right (f h) (flat_map f (put_in g hs)) x (rest (inl j))
    split true (inr j) rest = elim (Contains-append_cases (f h) (flat_map f hs) x j) [
      | inl k ↦ Contains-append_left (f h) (flat_map f (put_in g hs)) x k
      | inr k ↦ Contains-append_right (f h) (flat_map f (put_in g hs)) x (rest (inr k))
    ]
    split false (inl j) rest = Contains-append_left (f g) (f h ++ flat_map f hs) x j
    split false (inr j) rest = Contains-append_right (f g) (f h ++ flat_map f hs) x j

pub sorted_to : {A : Type 0} (f : Given → List A) (gs : List Given) (x : A) → Contains (flat_map f gs) x → Contains (flat_map f (by_first_read gs)) x
sorted_to f [] x h = h
sorted_to f (g ∷ gs) x h = put_to f g (by_first_read gs) x (elim (Contains-append_cases (f g) (flat_map f gs) x h) [
  | inl i ↦ inl i
  | inr i ↦ inr (sorted_to f gs x i)
])

-- a value that was put among others, or one of them
pub put_of : (g : Given) (hs : List Given) (y : Given) → Contains (put_in g hs) y → (g ≡ y) ⊎ Contains hs y
put_of g [] y i = has g [] y i
put_of g (h ∷ hs) y i = split (begins_before (first_read h) (first_read g)) i (put_of g hs y)
  where
    split : (b : Bool) → Contains (if b then h ∷ put_in g hs else g ∷ h ∷ hs) y → (Contains (put_in g hs) y → (g ≡ y) ⊎ Contains hs y) → (g ≡ y) ⊎ Contains (h ∷ hs) y
    split true j rest = elim (has h (put_in g hs) y j) [
      | inl e ↦ inr (subst (λ z. Contains (h ∷ hs) z) e (here h hs))
      | inr k ↦ elim (rest k) [ inl e ↦ inl e | inr l ↦ inr (there h hs y l) ]
    ]
    split false j rest = has g (h ∷ hs) y j

pub sorted_of : (gs : List Given) (y : Given) → Contains (by_first_read gs) y → Contains gs y
sorted_of [] y i = i
sorted_of (g ∷ gs) y i = elim (put_of g (by_first_read gs) y i) [
  | inl e ↦ subst (λ z. Contains (g ∷ gs) z) e (here g gs)
  | inr j ↦ there g gs y (sorted_of gs y j)
]

-- what one of some values has, they have
pub of_flat : {A B : Type 0} (f : A → List B) (xs : List A) (y : B) → Contains (flat_map f xs) y → (x : A) × Contains xs x × Contains (f x) y
of_flat f [] y h = absurd (has_none y h)
of_flat f (x ∷ xs) y h = elim (Contains-append_cases (f x) (flat_map f xs) y h) [
  | inl i ↦ (x, here x xs, i)
  | inr i ↦ let w = of_flat f xs y i in (w.0, there x xs w.0 w.1, w.2)
]

pub to_flat : {A B : Type 0} (f : A → List B) (xs : List A) (x : A) (y : B) → Contains xs x → Contains (f x) y → Contains (flat_map f xs) y
to_flat f [] x y h i = absurd (has_none x h)
to_flat f (z ∷ xs) x y h i = elim (has z xs x h) [
  | inl e ↦ Contains-append_left (f z) (flat_map f xs) y (subst (λ w. Contains (f w) y) (sym e) i)
  | inr j ↦ Contains-append_right (f z) (flat_map f xs) y (to_flat f xs x y j i)
]

-- what values have in the order of their reads, they have
pub sorted_from : {A : Type 0} (f : Given → List A) (gs : List Given) (x : A) → Contains (flat_map f (by_first_read gs)) x → Contains (flat_map f gs) x
sorted_from f gs x h = let w = of_flat f (by_first_read gs) x h in to_flat f gs w.0 x (sorted_of gs w.0 w.1) w.2

-- where a value's reads begin; none begin at 0
abbrev rank : Option ℕ → ℕ
rank None = 0
rank (Some place) = suc place

before_true : (a b : Option ℕ) → begins_before a b ≡ true → rank a < rank b
before_true a None e = cc
before_true None (Some q) e = omega arith
before_true (Some p) (Some q) e = let lt = ltb-true p q e in omega (arith, lt)

before_false : (a b : Option ℕ) → begins_before a b ≡ false → rank b ≤ rank a
before_false a None e = omega arith
before_false None (Some q) e = cc
before_false (Some p) (Some q) e = let le = ltb-false p q e in omega (arith, le)

apart_sym : (g h : Given) → StandApart g h → StandApart h g
apart_sym g h (inl s) = inr s
apart_sym g h (inr s) = inl s

-- values stand apart, and the first one's reads begin first
abbrev pub Follow : Given → Given → Type 0
Follow g h = StandApart g h × (rank (first_read g) ≤ rank (first_read h))

put_follow : (g : Given) (hs : List Given) → Pairs Follow hs → ((h : Given) → Contains hs h → StandApart g h) → Pairs Follow (put_in g hs)
put_follow g [] k a = (λ y i. absurd (has_none y i), tt)
put_follow g (h ∷ hs) k a = split (begins_before (first_read h) (first_read g)) refl (put_follow g hs k.1 (λ y i. a y (there h hs y i)))
  where
    split : (b : Bool) → begins_before (first_read h) (first_read g) ≡ b → Pairs Follow (put_in g hs) → Pairs Follow (if b then h ∷ put_in g hs else g ∷ h ∷ hs)
    split true e r = (
      λ y i. elim (put_of g hs y i) [
        | inl q ↦ subst (λ z. Follow h z) q (apart_sym g h (a h (here h hs)), let lt = before_true (first_read h) (first_read g) e in omega (arith, lt))
        | inr j ↦ k.0 y j
      ],
      r,
    )
    split false e r = let le = before_false (first_read h) (first_read g) e in (
      λ y i. elim (has h hs y i) [
        | inl q ↦ subst (λ z. Follow g z) q (a h (here h hs), le)
        | inr j ↦ (a y (there h hs y j), let w = (k.0 y j).1 in omega (arith, le, w))
      ],
      k,
    )

pub sorted_follow : (gs : List Given) → Pairs StandApart gs → Pairs Follow (by_first_read gs)
sorted_follow [] p = tt
sorted_follow (g ∷ gs) p = put_follow g (by_first_read gs) (sorted_follow gs p.1) (λ h i. p.0 h (sorted_of gs h i))

-- then the cells of the first stand before those of the other
pub follow_before : (g h : Given) → Follow g h → StandBefore (expression_places g.value) (expression_places h.value)
follow_before g h f = elim f.0 [
  | inl s ↦ s
  | inr s ↦ turned (expression_places g.value) (expression_places h.value) s f.1
]
  where
    turned : (us vs : List ℕ) → StandBefore vs us → rank (slice_get us 0) ≤ rank (slice_get vs 0) → StandBefore us vs
    turned [] vs s le u v i j = absurd (has_none u i)
    turned (p ∷ us) [] s le u v i j = absurd (has_none v j)
    turned (p ∷ us) (q ∷ vs) s le u v i j = let lt = s q p (here q vs) (here p us) in absurd (omega (arith, lt, le))

-- places that stand before those of each of some things stand before all of them
pub before_all : {A : Type 0} (f : A → List ℕ) (us : List ℕ) (xs : List A) → ((x : A) → Contains xs x → StandBefore us (f x)) → StandBefore us (flat_map f xs)
before_all f us xs s u v i j = let w = of_flat f xs v j in s w.0 w.1 u v i w.2
